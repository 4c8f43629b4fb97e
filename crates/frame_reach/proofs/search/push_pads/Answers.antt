use Rattle.std.proofs.Common.{get_or}
use Rattle.std.proofs.lemmas.List.Elements.{Contains-get_or}
use Rattle.frame_graph.specs.declared.edges.Edge.{Edge}
use Rattle.frame_reach.specs.Search.{search_view, IsLanded}
use Rattle.frame_reach.proofs.Marking.{then}
use Rattle.frame_reach.proofs.Found.{contains_next, contains_all}
use Rattle.frame_reach.proofs.search.push_pads.Goals as goal

abbrev none : Edge
none = record { to = 0; clobbers = 0 }

pub push_pad-requires-clause-pad : goal.push_pad-requires-clause-pad
push_pad-requires-clause-pad c = c.requires.pads (get_or c.args.edges.now c.loop-edge.edge-index none) (Contains-get_or c.args.edges.now c.loop-edge.edge-index none c.loop-edge-test.true)

pub loop-edge-preserved : goal.loop-edge-preserved
loop-edge-preserved c =
    let now = c.in_ok-push_pad.ensures in
    let i = c.loop-edge.invariant in
    record {
      sound = now.0;
      grows = then (search_view c.args.found.now) (search_view c.loop-edge.found) (search_view c.push_pad.new.found) i.grows now.1;
      landed = contains_next (λ (w : Edge). IsLanded c.push_pad.new.found w.to) c.args.edges.now c.loop-edge.edge-index none c.loop-edge-test.true
          (λ w m. let old = i.landed w m in (now.1.reached w.to old.0, now.1.target w.to old.1, now.1.pad w.to old.2)) now.2;
    }

pub returns : goal.returns
returns c =
    let i = c.loop-edge.invariant in
    (i.sound, i.grows, contains_all (λ (w : Edge). IsLanded c.loop-edge.found w.to) c.args.edges.now c.loop-edge.edge-index c.loop-edge-test.false i.landed)
