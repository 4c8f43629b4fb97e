use Rattle.std.proofs.Common.{◌<◌, ◌^◌, ℕ, length, subst, sym, arith}
use Rattle.frame_graph.specs.Reach.{IsReached}
use Rattle.frame_reach.specs.Search.{search_view}
use Rattle.frame_reach.proofs.Found.{low, at_index, listed_reached, followed_more, all_marked, not_too_long}
use Rattle.frame_reach.proofs.search.visit_all.Goals as goal

pub answer_place-requires-clause-place : goal.answer_place-requires-clause-place
answer_place-requires-clause-place c =
    let s = c.args.flow_graph.now in
    let h = search_view c.loop-next.found in
    let l : c.loop-next.next < length h.places = omega (arith, c.len.ensures, c.loop-next-test.true) in
    let is = at_index s h.places c.loop-next.next c.index-place.result.now l c.index-place.ensures in
    let r : IsReached s c.index-place.result.now = subst (λ (x : ℕ). IsReached s x) (sym is) (listed_reached s h c.loop-next.next c.loop-next.invariant.sound l) in
    let start : s.start < 2 ^ 32 = omega (arith, c.start-start.type_inv, c.start-start.ensures) in
    let end : s.end < 2 ^ 32 = omega (arith, c.end-end.type_inv, c.end-end.ensures) in
    low s c.index-place.result.now r start end

pub visit-requires-clause-low : goal.visit-requires-clause-low
visit-requires-clause-low c =
    let s = c.args.flow_graph.now in
    let h = search_view c.loop-next.found in
    let l : c.loop-next.next < length h.places = omega (arith, c.len.ensures, c.loop-next-test.true) in
    let is = at_index s h.places c.loop-next.next c.index-place.result.now l c.index-place.ensures in
    let r : IsReached s c.index-place.result.now = subst (λ (x : ℕ). IsReached s x) (sym is) (listed_reached s h c.loop-next.next c.loop-next.invariant.sound l) in
    let start : s.start < 2 ^ 32 = omega (arith, c.start-start.type_inv, c.start-start.ensures) in
    let end : s.end < 2 ^ 32 = omega (arith, c.end-end.type_inv, c.end-end.ensures) in
    low s c.index-place.result.now r start end

pub loop-next-preserved : goal.loop-next-preserved
loop-next-preserved c =
    let s = c.args.flow_graph.now in
    let h = search_view c.loop-next.found in
    let i = c.loop-next.invariant in
    let now = c.in_ok-visit.ensures in
    let l : c.loop-next.next < length h.places = omega (arith, c.len.ensures, c.loop-next-test.true) in
    let is = at_index s h.places c.loop-next.next c.index-place.result.now l c.index-place.ensures in
    record {
      sound = now.0;
      entry = now.1.reached 0 i.entry;
      stretch = c.in_ok-answer_place.ensures.stretch;
      within = omega (arith, l, now.1.longer);
      visited = followed_more s h (search_view c.visit.new.found) c.loop-next.next c.index-place.result.now now.1 l is i.visited now.2;
    }

pub returns : goal.returns
returns c =
    let s = c.args.flow_graph.now in
    let h = search_view c.loop-next.found in
    let i = c.loop-next.invariant in
    let all = λ (k : ℕ) (m : k < length h.places). i.visited k (omega (arith, m, c.len.ensures, c.loop-next-test.false)) in
    (all_marked s h i.sound i.entry all, i.sound.listed, not_too_long s h i.sound i.entry all)
