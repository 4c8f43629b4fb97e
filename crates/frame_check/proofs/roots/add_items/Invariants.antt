use Rattle.std.proofs.Common.{◌≡◌, ◌++◌}
use Rattle.std.specs.List.{flat_map}
use Rattle.frame_check.specs.Roots.{item_types}
use Rattle.frame_check.proofs.roots.add_items.Given as goal

abbrev pub invariant-loop-item : goal.invariant-loop-item
invariant-loop-item l =
    goal.iterator-loop-item.can_next l.item-iterator × goal.iterator-loop-item.is_finite l.item-iterator
    × (l.roots.items ++ flat_map (item_types l.index.segments) l.item-iterator ≡ l.initial.roots.items ++ flat_map (item_types l.index.segments) l.fn.descs)
