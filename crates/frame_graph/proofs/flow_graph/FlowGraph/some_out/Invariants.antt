use Rattle.std.proofs.Common.{◌≡◌}
use Rattle.std.specs.List.{list_any}
use Rattle.frame_entries.specs.Scopes.{is_one}
use Rattle.frame_graph.specs.Sites.{lands_out}
use Rattle.frame_graph.proofs.flow_graph.FlowGraph.some_out.Given as goal

abbrev pub invariant-loop-item : goal.invariant-loop-item
invariant-loop-item l =
    goal.iterator-loop-item.can_next l.item-iterator × goal.iterator-loop-item.is_finite l.item-iterator
    × (list_any (is_one (lands_out l.self l.site)) l.item-iterator ≡ list_any (is_one (lands_out l.self l.site)) l.fn.descs)
