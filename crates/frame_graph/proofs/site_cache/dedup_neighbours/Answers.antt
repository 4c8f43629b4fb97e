use Rattle.frame_graph.proofs.Thinned.{thin_more, thin_over}
use Rattle.frame_graph.proofs.site_cache.dedup_neighbours.Goals as goal

pub loop-edge-preserved : goal.loop-edge-preserved
loop-edge-preserved c = thin_more c.loop-edge.thin.items c.add_other.new.edges.items c.args.edges.now c.loop-edge.edge-index _ c.loop-edge-test.true c.in_ok-add_other.ensures c.loop-edge.invariant

pub returns : goal.returns
returns c = thin_over c.loop-edge.thin.items c.args.edges.now c.loop-edge.edge-index c.loop-edge-test.false c.loop-edge.invariant
