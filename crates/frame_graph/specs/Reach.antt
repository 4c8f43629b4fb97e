-- Which places of a function are reached.
use Rattle.std.specs.Prelude.{ℕ}
use Rattle.std.specs.List.{Contains}
use Rattle.frame_graph.specs.declared.edges.Edge.{Edge}
use Rattle.frame_graph.specs.FlowGraph.{FlowGraph}
use Rattle.frame_graph.specs.Sites.{edges_of}

-- the entry is reached, and each place that an edge from a reached place leads to; no other place is
pub data IsReached (s : FlowGraph) : ℕ → Type 0 where
  entry : IsReached s 0
  along : {p : ℕ} {w : Edge} → IsReached s p → Contains (edges_of s p) w → IsReached s w.to
