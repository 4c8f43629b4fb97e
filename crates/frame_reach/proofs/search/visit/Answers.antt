use Rattle.std.proofs.Common.{◌∙◌}
use Rattle.frame_reach.specs.Search.{search_view}
use Rattle.frame_reach.proofs.Marking.{then}
use Rattle.frame_reach.proofs.Found.{followed, straight_all}
use Rattle.frame_reach.proofs.search.visit.Goals as goal

pub push_places-requires-clause-reached : goal.push_places-requires-clause-reached
push_places-requires-clause-reached c = straight_all c.args.flow_graph.now c.args.place c.deref.result.now c.requires.reached (c.deref.ensures.value ∙ c.in_ok-put_straight_edges.ensures)

pub returns : goal.returns
returns c =
    let a = search_view c.push_places.new.found in
    let b = search_view c.push_site_pads.new.found in
    let d = search_view c.mark_target.new.found in
    let put = c.in_ok-push_places.ensures in
    let landed = c.in_ok-push_site_pads.ensures in (
      c.mark_target.ensures.sound,
      then (search_view c.args.found.now) a d put.1 (then a b d landed.1 c.mark_target.ensures.grows),
      followed c.args.flow_graph.now a b d c.args.place c.deref.result.now c.branch_place.result
          (c.deref.ensures.value ∙ c.in_ok-put_straight_edges.ensures) c.branch_place.ensures landed.1 c.mark_target.ensures.grows put.2 landed.2 c.mark_target.ensures.aimed,
    )
