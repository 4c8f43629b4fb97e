use Rattle.std.proofs.Common.{◌≡◌}
use Rattle.std.specs.List.{list_any}
use Rattle.frame_entries.specs.Scopes.{is_one, is_scope_at}
use Rattle.frame_entries.proofs.scopes.some_covered.Given as goal

abbrev pub invariant-loop-item : goal.invariant-loop-item
invariant-loop-item l =
    goal.iterator-loop-item.can_next l.item-iterator × goal.iterator-loop-item.is_finite l.item-iterator
    × (list_any (is_one (is_scope_at l.site)) l.item-iterator ≡ list_any (is_one (is_scope_at l.site)) l.fn.descs)
