use Rattle.std.proofs.Common.{◌≡◌, ◌++◌, drop}
use Rattle.std.specs.List.{filter}
use Rattle.frame_graph.specs.SiteCaching.{is_met}
use Rattle.frame_graph.proofs.entry_cache.items_near.Given as goal

abbrev pub invariant-loop-item : goal.invariant-loop-item
invariant-loop-item l = l.near.items ++ filter (is_met l.span) (drop l.item-index l.items) ≡ filter (is_met l.span) l.items
