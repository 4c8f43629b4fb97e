use Rattle.std.proofs.Common.{ℕ, ◌≡◌, List, ◌∷◌, [], ◌++◌, set, arith, ap, subst, ◌∙◌, Some}
use Rattle.frame_graph.specs.SiteCaching.{TellsOn}
use Rattle.frame_flow.specs.Framed.{Parts, framed_view}
use Rattle.frame_flow.specs.Work.{IsSound, load}
use Rattle.frame_flow.proofs.Visiting.{halves, place_within, begun, load_popped, valid_over, clear, lacking}
use Rattle.frame_flow.proofs.work.solve_in.Goals as goal

pub loop-place-init : goal.loop-place-init
loop-place-init c =
    let x = c.args.x.now in
    let start = c.start.ensures ∙ ap (λ (a : Parts). a.flow_graph.start) c.x.view_is in
    let end = c.end.ensures ∙ ap (λ (a : Parts). a.flow_graph.end) c.x.view_is in
    let count = halves x.flow_graph.start x.flow_graph.end c.start.result c.end.result c.div_ceil-count.result start end c.div_ceil-count.ensures in
    record {
      sound = begun (framed_view x) c.put.new.facts c.put.new.work.items c.blank.new.self c.div_ceil-count.result count c.in-Ok.ensures
          (c.in_ok-put.ensures.facts ∙ ap (λ f. set c.blank.new.self 0 (Some f)) c.entry_fact-next.ensures) (c.in_ok-put.ensures.work ∙ ap (λ w. w ++ 0 ∷ []) c.clear.ensures.items) c.requires;
      stretch = c.forget.ensures.stretch c.args.x.now.flow_graph;
    }

pub answer_place-requires-clause-place : goal.answer_place-requires-clause-place
answer_place-requires-clause-place c =
    let x = framed_view c.args.x.now in
    let sound = subst (λ (w : List ℕ). IsSound x c.loop-place.room.facts w []) c.in-Some.ensures.items c.loop-place.invariant.sound in
    let start : c.x.inside.flow_graph.now.start ≡ c.args.x.now.flow_graph.start = ap (λ (a : Parts). a.flow_graph.start) c.x.view_is in
    let end = c.end.ensures ∙ ap (λ (a : Parts). a.flow_graph.end) c.x.view_is in
    omega (arith, start, end, c.end.type_inv, (place_within x c.loop-place.room.facts c.pop.new.self.items c.in-Some.place sound).0)

pub visit-requires-clause-sound : goal.visit-requires-clause-sound
visit-requires-clause-sound c = subst (λ (w : List ℕ). IsSound (framed_view c.args.x.now) c.loop-place.room.facts w []) c.in-Some.ensures.items c.loop-place.invariant.sound

pub visit-requires-clause-tells : goal.visit-requires-clause-tells
visit-requires-clause-tells c = subst (λ (a : Parts). TellsOn a.flow_graph c.answer_place.new.held c.in-Some.place) c.x.view_is c.in-Ok-answer_place.ensures.tells

pub loop-place-smaller : goal.loop-place-smaller
loop-place-smaller c =
    omega (
      arith,
      c.in-Ok-visit.ensures.1,
      load_popped (framed_view c.args.x.now) c.loop-place.room.facts c.pop.new.self.items c.in-Some.place,
      ap (load (framed_view c.args.x.now) c.loop-place.room.facts) c.in-Some.ensures.items,
    )

pub returns-in-Err-visit-clause-lacks : goal.returns-in-Err-visit-clause-lacks
returns-in-Err-visit-clause-lacks c = lacking (framed_view c.args.x.now) c.in-Err-visit.fault c.in-Err-visit.ensures

pub returns-clause-accepted : goal.returns-clause-accepted
returns-clause-accepted c = valid_over (framed_view c.args.x.now) c.loop-place.room.facts c.loop-place.room.work.items (omega (arith, c.loop-place.room.work.ok.0, c.in_default.ensures.cases)) c.loop-place.invariant.sound

pub returns-clause-clear : goal.returns-clause-clear
returns-clause-clear c =
    clear (framed_view c.args.x.now) (valid_over (framed_view c.args.x.now) c.loop-place.room.facts c.loop-place.room.work.items (omega (arith, c.loop-place.room.work.ok.0, c.in_default.ensures.cases)) c.loop-place.invariant.sound)
