use Rattle.std.proofs.Common.{◌≡◌, ◌++◌, false}
use Rattle.frame_graph.specs.Sites.{pad_edges}
use Rattle.frame_graph.proofs.flow_graph.FlowGraph.add_pads.Given as goal

abbrev pub invariant-loop-item : goal.invariant-loop-item
invariant-loop-item l =
    goal.iterator-loop-item.can_next l.item-iterator × goal.iterator-loop-item.is_finite l.item-iterator
    × (l.edges.items ++ pad_edges l.self l.site l.unwinding l.resumed l.item-iterator ≡ l.initial.edges.items ++ pad_edges l.self l.site l.unwinding false l.fn.descs)
