use Rattle.std.proofs.Common.{◌≡◌}
use Rattle.eh_phase.specs.Firsts.{first_some}
use Rattle.eh_phase.specs.Phases.{enter_item, from_address}
use Rattle.eh_phase.specs.Calls.{frame_at}
use Rattle.eh_phase.proofs.After.{left}
use Rattle.eh_phase.proofs.phase2.landing_in.Given as goal

abbrev pub invariant-loop-item : goal.invariant-loop-item
invariant-loop-item l =
    (goal.iterator-loop-item).can_next l.item-iterator × (goal.iterator-loop-item).is_finite l.item-iterator
    × (first_some (enter_item l.goal (frame_at l.cursor)) (left l.before l.from l.item-iterator) ≡ first_some (enter_item l.goal (frame_at l.cursor)) (from_address l.from l.fn.descs))
