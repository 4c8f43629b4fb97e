use Rattle.std.proofs.Common.{◌↔◌, ◌⊎◌, drop}
use Rattle.std.specs.List.{Contains}
use Rattle.frame_graph.specs.declared.edges.Edge.{Edge}
use Rattle.frame_graph.proofs.site_cache.dedup_neighbours.Given as goal

abbrev pub invariant-loop-edge : goal.invariant-loop-edge
invariant-loop-edge l = (w : Edge) → (Contains l.thin.items w ⊎ Contains (drop l.edge-index l.edges) w) ↔ Contains l.edges w
