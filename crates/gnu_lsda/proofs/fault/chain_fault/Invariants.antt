use Rattle.std.proofs.Common.{◌≡◌, None, fold}
use Rattle.gnu_lsda.specs.Chains.{actions_of}
use Rattle.gnu_lsda.specs.Faults.{lower, item_fault}
use Rattle.gnu_lsda.proofs.fault.chain_fault.Given as goal

abbrev pub invariant-loop-item : goal.invariant-loop-item
invariant-loop-item l =
    goal.iterator-loop-item.can_next l.item-iterator × goal.iterator-loop-item.is_finite l.item-iterator
    × (fold (λ seen item. lower seen (item_fault l.image item)) l.seen l.item-iterator
    ≡ fold (λ seen item. lower seen (item_fault l.image item)) None (actions_of l.area l.action))
