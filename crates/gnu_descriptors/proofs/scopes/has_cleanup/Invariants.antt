use Rattle.std.proofs.Common.{◌≡◌}
use Rattle.std.specs.List.{list_any}
use Rattle.gnu_lsda.specs.Chains.{actions_of}
use Rattle.gnu_descriptors.specs.Scopes.{is_cleanup}
use Rattle.gnu_descriptors.proofs.scopes.has_cleanup.Given as goal

abbrev pub invariant-loop-item : goal.invariant-loop-item
invariant-loop-item l =
    goal.iterator-loop-item.can_next l.item-iterator × goal.iterator-loop-item.is_finite l.item-iterator
    × (list_any is_cleanup l.item-iterator ≡ list_any is_cleanup (actions_of l.area l.action))
