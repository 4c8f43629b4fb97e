use Rattle.std.proofs.Common.{◌≡◌, None, fold}
use Rattle.gnu_lsda.specs.Sites.{records_of}
use Rattle.gnu_lsda.specs.Faults.{with_record}
use Rattle.gnu_lsda.proofs.generic.Generic.records_fault.Given as goal

abbrev pub invariant-loop-item : goal.invariant-loop-item
invariant-loop-item l =
    goal.iterator-loop-item.can_next l.item-iterator × goal.iterator-loop-item.is_finite l.item-iterator
    × (fold (with_record l.image l.self l.area) l.seen l.item-iterator ≡ fold (with_record l.image l.self l.area) (record { end = 0; fault = None }) (records_of l.area))
