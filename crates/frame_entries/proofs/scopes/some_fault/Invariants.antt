use Rattle.std.proofs.Common.{◌≡◌}
use Rattle.std.specs.List.{list_any}
use Rattle.frame_entries.specs.Scopes.{is_fault}
use Rattle.frame_entries.proofs.scopes.some_fault.Given as goal

abbrev pub invariant-loop-item : goal.invariant-loop-item
invariant-loop-item l =
    goal.iterator-loop-item.can_next l.item-iterator × goal.iterator-loop-item.is_finite l.item-iterator
    × (list_any (is_fault) l.item-iterator ≡ list_any (is_fault) l.fn.descs)
