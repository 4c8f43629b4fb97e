use Rattle.frame_graph.proofs.site_cache.dedup_in_place.Goals as goal

pub returns : goal.returns
returns c = rw c.deref.ensures.value at c.in_ok-edges.ensures
