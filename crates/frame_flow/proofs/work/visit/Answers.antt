use Rattle.std.proofs.Common.{◌≡◌, Ok, option_copied, arith, ap, sym, subst, ◌∙◌}
use Rattle.frame_graph.specs.SiteCaching.{TellsOn}
use Rattle.frame_flow.specs.Framed.{Parts, framed_view}
use Rattle.frame_flow.specs.Work.{fact_if_true}
use Rattle.frame_flow.proofs.Transfers.{same_edges}
use Rattle.frame_flow.proofs.Visiting.{visit_none, visit_cause, visit_ends, visit_leads, place_within}
use Rattle.frame_flow.proofs.work.visit.Goals as goal

pub get-requires : goal.get-requires
get-requires c = (place_within (framed_view c.args.x.now) c.args.facts.now c.args.work.now.items c.args.place c.requires.sound).1

pub pass_place-requires-clause-low : goal.pass_place-requires-clause-low
pass_place-requires-clause-low c = omega (arith, c.requires.short, (place_within (framed_view c.args.x.now) c.args.facts.now c.args.work.now.items c.args.place c.requires.sound).0)

pub put_edges-requires-clause-place : goal.put_edges-requires-clause-place
put_edges-requires-clause-place c =
    let start : c.x.inside.flow_graph.now.start ≡ c.args.x.now.flow_graph.start = ap (λ (a : Parts). a.flow_graph.start) c.x.view_is in
    omega (arith, start, c.requires.short, (place_within (framed_view c.args.x.now) c.args.facts.now c.args.work.now.items c.args.place c.requires.sound).0)

pub put_edges-requires-clause-tells : goal.put_edges-requires-clause-tells
put_edges-requires-clause-tells c = subst (λ (a : Parts). TellsOn a.flow_graph c.args.stretch.now c.args.place) (sym c.x.view_is) c.requires.tells

pub follow_edges-requires : goal.follow_edges-requires
follow_edges-requires c =
    let passed = sym c.pass_place.ensures ∙ ap (λ r. fact_if_true r c.pass_place.new.next) (c.in-Ok.is ∙ ap Ok c.if-not-leads.false) in
    let edges = same_edges c.deref.result.now c.put_edges.new.edges.items c.x.inside.flow_graph.now c.args.x.now.flow_graph c.args.place c.deref.ensures.value (ap (λ (a : Parts). a.flow_graph) c.x.view_is) c.in-Ok-put_edges.ensures in
    visit_leads (framed_view c.args.x.now) c.args.facts.now c.args.work.now.items c.args.place c.in-Some.fact.now c.pass_place.new.next c.deref.result.now c.requires.sound
    (sym c.get.ensures ∙ ap option_copied c.in-Some.is) passed edges

pub returns-in-None : goal.returns-in-None
returns-in-None c =
    (visit_none (framed_view c.args.x.now) c.args.facts.now c.args.work.now.items c.args.place c.requires.sound (sym c.get.ensures ∙ ap option_copied c.in-None.is), omega arith)

pub returns-in-Err : goal.returns-in-Err
returns-in-Err c =
    visit_cause (framed_view c.args.x.now) c.args.facts.now c.args.work.now.items c.args.place c.in-Some.fact.now c.in-Err.cause c.requires.sound
    (sym c.get.ensures ∙ ap option_copied c.in-Some.is) (sym c.in-Err.ensures)

pub returns-then-not-leads : goal.returns-then-not-leads
returns-then-not-leads c =
    let passed = sym c.pass_place.ensures ∙ ap (λ r. fact_if_true r c.pass_place.new.next) (c.in-Ok.is ∙ ap Ok c.if-not-leads.true) in (
      visit_ends (framed_view c.args.x.now) c.args.facts.now c.args.work.now.items c.args.place c.in-Some.fact.now c.requires.sound
          (sym c.get.ensures ∙ ap option_copied c.in-Some.is) passed,
      omega arith,
    )
