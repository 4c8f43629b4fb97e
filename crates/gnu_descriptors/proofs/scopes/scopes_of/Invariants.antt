use Rattle.std.proofs.Common.{◌≡◌, ◌++◌}
use Rattle.gnu_descriptors.specs.Scopes.{scopes_from, scopes_of}
use Rattle.gnu_descriptors.proofs.scopes.scopes_of.Given as goal

abbrev pub invariant-loop-item : goal.invariant-loop-item
invariant-loop-item l =
    goal.iterator-loop-item.can_next l.item-iterator × goal.iterator-loop-item.is_finite l.item-iterator
    × (l.out.items ++ scopes_from l.entry.start l.entry.size l.area l.at l.item-iterator ≡ scopes_of l.entry l.area)
