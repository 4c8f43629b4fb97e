use Rattle.std.proofs.Common.{sym, ◌∙◌, ap, arith, ◌-◌, ◌+◌, ◌*◌, ◌≡◌, true, false, ◌||◌, Bool}
use Rattle.eh_types.specs.Words.{words_from, any_writable}
use Rattle.eh_types.proofs.Reading.{words_some, words_end, last_word}
use Rattle.eh_types.proofs.words.words_from.Goals as goal
use Rattle.eh_types.proofs.words.words_from.Goals.{then-writable, else-writable}

or_true : (w v r : Bool) → w ≡ true → r ≡ true → (w || v) ≡ r
or_true true v r e f = sym f
or_true false v r e f = absurd cc

or_false : (w v r : Bool) → w ≡ false → r ≡ v → (w || v) ≡ r
or_false true v r e f = absurd cc
or_false false v r e f = sym f

pub overflow_mul-at : goal.overflow_mul-at
overflow_mul-at c =
    omega (arith, words_end c.args.image.now c.loop-left.at c.words_in-here.result _ c.segment_at.ensures.sound (sym c.in_ok-segment.ensures.found) c.words_in-here.ensures.room (omega (arith, c.if-here-eq0.false)))

pub overflow_add-at : goal.overflow_add-at
overflow_add-at c =
    omega (arith, words_end c.args.image.now c.loop-left.at c.words_in-here.result _ c.segment_at.ensures.sound (sym c.in_ok-segment.ensures.found) c.words_in-here.ensures.room (omega (arith, c.if-here-eq0.false)))

pub loop-left-preserved : goal.loop-left-preserved
loop-left-preserved c =
    let end = words_end c.args.image.now c.loop-left.at c.words_in-here.result _ c.segment_at.ensures.sound (sym c.in_ok-segment.ensures.found) c.words_in-here.ensures.room (omega (arith, c.if-here-eq0.false)) in
    let step = words_some c.args.image.now c.args.a c.loop-left.at c.loop-left.left c.words_in-here.result c.args.count c.loop-left.writable _ c.segment_at.ensures.sound (sym c.in_ok-segment.ensures.found)
    c.words_in-here.ensures.room (omega (arith, c.if-here-eq0.false)) c.words_in-here.ensures.asked c.loop-left.invariant.0 in
    let which : (c.loop-left.writable || c.in_ok-segment.segment.now.write) ≡ c.if-writable.writable = elim c.if-writable.branch [
      | then-writable w ↦ or_true c.loop-left.writable _ c.if-writable.writable w.if-writable.true (w.writable-is ∙ w.if-writable.true)
      | else-writable w ↦ or_false c.loop-left.writable _ c.if-writable.writable w.if-writable.false (w.writable-is ∙ w.may_write-writable.ensures)
    ] in
    (step ∙ ap (λ (b : Bool). any_writable b (words_from c.args.image.now.segments (c.loop-left.at + 4 * c.words_in-here.result) (c.loop-left.left - c.words_in-here.result))) which, omega (arith, end))

pub returns : goal.returns
returns c = last_word c.args.image.now c.args.a c.loop-left.at c.args.count c.loop-left.left c.loop-left.writable (omega (arith, c.loop-left-test.false)) c.loop-left.invariant.0
