use Rattle.std.proofs.Common.{◌≤◌, map, drop}
use Rattle.frame_flow.specs.Framed.{framed_view}
use Rattle.frame_flow.specs.Flows.{along_edge}
use Rattle.frame_flow.specs.Work.{IsSound, load}
use Rattle.frame_flow.proofs.work.follow_edges.Given as goal

abbrev pub invariant-loop-edge : goal.invariant-loop-edge
invariant-loop-edge l = record {
  sound : IsSound (framed_view l.x) l.facts l.work.items (map (along_edge l.fact) (drop l.edge-index l.edges));
  lighter : load (framed_view l.x) l.facts l.work.items ≤ load (framed_view l.x) l.initial.facts l.initial.work.items;
}
