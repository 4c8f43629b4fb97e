use Rattle.std.proofs.Common.{◌≡◌, ◌++◌}
use Rattle.eh_index.specs.Places.{table_of}
use Rattle.eh_desc.specs.Grammar.{items_of}
use Rattle.frame_entries.proofs.scopes.put_items.Given as goal

abbrev pub invariant-loop-item : goal.invariant-loop-item
invariant-loop-item l =
    goal.iterator-loop-item.can_next l.item-iterator × goal.iterator-loop-item.is_finite l.item-iterator
    × (l.items.items ++ l.item-iterator ≡ items_of l.e (table_of l.index l.e))
