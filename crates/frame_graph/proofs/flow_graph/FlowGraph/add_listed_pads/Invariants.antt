use Rattle.std.proofs.Common.{◌≡◌, ◌++◌, false, drop}
use Rattle.frame_graph.specs.Sites.{pad_edges}
use Rattle.frame_graph.proofs.flow_graph.FlowGraph.add_listed_pads.Given as goal

abbrev pub invariant-loop-item : goal.invariant-loop-item
invariant-loop-item l = l.edges.items ++ pad_edges l.self l.site l.unwinding l.resumed (drop l.item-index l.items) ≡ l.initial.edges.items ++ pad_edges l.self l.site l.unwinding false l.items
