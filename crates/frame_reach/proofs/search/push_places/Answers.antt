use Rattle.frame_graph.specs.declared.edges.Edge.{Edge}
use Rattle.frame_reach.specs.Search.{search_view, IsPut}
use Rattle.frame_reach.proofs.Marking.{then}
use Rattle.frame_reach.proofs.Found.{contains_next, contains_all}
use Rattle.frame_reach.proofs.search.push_places.Goals as goal

abbrev none : Edge
none = record { to = 0; clobbers = 0 }

pub loop-edge-preserved : goal.loop-edge-preserved
loop-edge-preserved c =
    let now = c.in_ok-push_place.ensures in
    let i = c.loop-edge.invariant in
    record {
      sound = now.0;
      grows = then (search_view c.args.found.now) (search_view c.loop-edge.found) (search_view c.push_place.new.found) i.grows now.1;
      put = contains_next (λ (w : Edge). IsPut c.push_place.new.found w.to) c.args.edges.now c.loop-edge.edge-index none c.loop-edge-test.true (λ w m. now.1.reached w.to (i.put w m)) now.2;
    }

pub returns : goal.returns
returns c =
    let i = c.loop-edge.invariant in
    (i.sound, i.grows, contains_all (λ (w : Edge). IsPut c.loop-edge.found w.to) c.args.edges.now c.loop-edge.edge-index c.loop-edge-test.false i.put)
