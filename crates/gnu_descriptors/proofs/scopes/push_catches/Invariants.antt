use Rattle.std.proofs.Common.{◌≡◌, ◌++◌, flat_map}
use Rattle.gnu_lsda.specs.Chains.{actions_of}
use Rattle.gnu_descriptors.specs.Scopes.{catches_of}
use Rattle.gnu_descriptors.proofs.scopes.push_catches.Given as goal

abbrev pub invariant-loop-item : goal.invariant-loop-item
invariant-loop-item l =
    goal.iterator-loop-item.can_next l.item-iterator × goal.iterator-loop-item.is_finite l.item-iterator
    × (l.out.items ++ flat_map (catches_of l.start l.site) l.item-iterator ≡ l.initial.out.items ++ flat_map (catches_of l.start l.site) (actions_of l.area l.site.action))
