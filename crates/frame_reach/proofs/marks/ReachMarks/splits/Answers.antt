use Rattle.std.proofs.Common.{◌<◌, ◌^◌, ◌∙◌, ℕ, List, get_or, ap, sym, arith, refl, true≢false}
use Rattle.frame_reach.specs.Held.{marks_of, splits_at}
use Rattle.frame_reach.proofs.Found.{low, index_reached, splits_here, splits_nowhere}
use Rattle.frame_reach.proofs.marks.ReachMarks.splits.Goals as goal

pub splits_at-requires : goal.splits_at-requires
splits_at-requires c =
    let s = c.args.flow_graph.now in
    let places = c.places-place-items.result.now in
    let start : s.start < 2 ^ 32 = omega (arith, c.start-start.type_inv, c.start-start.ensures) in
    let end : s.end < 2 ^ 32 = omega (arith, c.end-end.type_inv, c.end-end.ensures) in
    low s (get_or places c.loop-place.place-index 0) (index_reached s (marks_of c.args.self.now) places c.requires c.places-place-items.ensures.all c.loop-place.place-index c.loop-place-test.true) start end

pub returns-then-splits_at : goal.returns-then-splits_at
returns-then-splits_at c = (
  λ t. splits_here c.args.flow_graph.now (marks_of c.args.self.now) c.places-place-items.result.now c.requires c.places-place-items.ensures.all c.loop-place.place-index c.loop-place-test.true
      (sym c.splits_at.ensures ∙ c.if-splits_at.true),
  λ split. refl,
)

pub returns : goal.returns
returns c =
    let s = c.args.flow_graph.now in
    let places = c.places-place-items.result.now in (
      λ t. absurd (true≢false (sym t)),
      λ split. absurd (splits_nowhere s (marks_of c.args.self.now) places c.requires c.places-place-items.ensures.all c.loop-place.place-index c.loop-place-test.false
          (λ k l. ap (λ (ps : List ℕ). splits_at s (get_or ps k 0)) c.places-place-items.ensures.same ∙ c.loop-place.invariant k l) split),
    )
