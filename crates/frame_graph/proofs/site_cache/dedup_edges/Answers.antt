use Rattle.frame_graph.proofs.Thinned.{same_in_order}
use Rattle.frame_graph.proofs.site_cache.dedup_edges.Goals as goal

pub returns : goal.returns
returns c =
    same_in_order c.args.edges.now c.in_ok-sorted.sorted.items c.sort_unstable.new.self.items c.deref.result.now c.in_ok-dedup_neighbours.field-0.items c.in_ok-sorted.ensures c.sort_unstable.ensures.permutation c.deref.ensures.value c.in_ok-dedup_neighbours.ensures
