use Rattle.std.proofs.Common.{◌≡◌}
use Rattle.eh_phase.specs.Firsts.{first_some}
use Rattle.eh_walk.specs.Stops.{fault_of}
use Rattle.eh_walk.proofs.stopping.first_fault.Given as goal

abbrev pub invariant-loop-item : goal.invariant-loop-item
invariant-loop-item l =
    (goal.iterator-loop-item).can_next l.item-iterator × (goal.iterator-loop-item).is_finite l.item-iterator
    × (first_some fault_of l.item-iterator ≡ first_some fault_of l.fn.descs)
