use Rattle.std.proofs.Common.{◌≡◌}
use Rattle.eh_phase.specs.Calls.{frame_at}
use Rattle.eh_phase.specs.Firsts.{first_some}
use Rattle.eh_walk.specs.Stops.{stop_by}
use Rattle.eh_walk.proofs.stopping.first_stop.Given as goal

abbrev pub invariant-loop-item : goal.invariant-loop-item
invariant-loop-item l =
    (goal.iterator-loop-item).can_next l.item-iterator × (goal.iterator-loop-item).is_finite l.item-iterator
    × (first_some (stop_by (frame_at l.at)) l.item-iterator ≡ first_some (stop_by (frame_at l.at)) l.fn.descs)
