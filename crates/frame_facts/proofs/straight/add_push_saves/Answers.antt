use Rattle.std.proofs.Common.{◌<◌, ◌-◌, length, arith, ap, sym, ◌∙◌}
use Rattle.thumb_core.proofs.Listed.{listed_none}
use Rattle.frame_facts.specs.Facts.{some_if}
use Rattle.frame_facts.specs.Prologues.{save_of_word, with_push_saves}
use Rattle.frame_facts.proofs.Walks.{length_more, length_less}
use Rattle.frame_facts.proofs.Pushing.{push_start, push_next, push_past, push_end, at_step, at_next, same_placed}
use Rattle.frame_facts.proofs.straight.add_push_saves.Goals as goal
use Rattle.frame_facts.proofs.straight.add_push_saves.Goals.{then-list-k-eq1, else-list-k-eq1}

pub loop-n-init : goal.loop-n-init
loop-n-init c = record {
  far = omega arith;
  offset = omega (arith, ap length (listed_none c.args.list));
  grown = push_start c.args.grown.now c.args.fact.now c.args.list;
}

pub loop-n-preserved : goal.loop-n-preserved
loop-n-preserved c =
    let low : 15 - c.loop-n.n < 16 = omega arith in
    let last = ap length (at_step c.loop-n.n c.args.list c.loop-n-test.true) in
    let next = ap length (at_next c.loop-n.n c.args.list c.loop-n-test.true) in
    let was = c.loop-n.invariant.grown ∙ ap (with_push_saves c.args.grown.now c.args.fact.now) (sym (at_step c.loop-n.n c.args.list c.loop-n-test.true)) in
    elim c.if-list-k-eq1.branch [
      | then-list-k-eq1 w ↦ record {
        far = omega (arith, w.offset-is, c.loop-n.invariant.far);
        offset = omega (arith, w.offset-is, c.loop-n.invariant.offset, last, next, length_more (15 - c.loop-n.n) c.args.list low w.if-list-k-eq1.true);
        grown =
            push_next c.args.grown.now c.args.fact.now c.args.list (15 - c.loop-n.n) c.loop-n.offset c.if-list-k-eq1.offset (some_if c.loop-n.fits c.loop-n.grown) (some_if c.if-list-k-eq1.fits c.if-list-k-eq1.grown) w.save_of_word.result w.source.result low w.if-list-k-eq1.true
            (omega (arith, c.loop-n.invariant.offset, last)) w.offset-is w.source.ensures (w.save_of_word.ensures ∙ ap (λ m. save_of_word m w.source.result) (sym w.offset-is)) was (same_placed _ _ _ _ w.fits-is w.grown-is ∙ w.add_save-fits.ensures)
            ∙ ap (with_push_saves c.args.grown.now c.args.fact.now) (at_next c.loop-n.n c.args.list c.loop-n-test.true);
      }
      | else-list-k-eq1 w ↦ record {
        far = omega (arith, w.offset-is, c.loop-n.invariant.far);
        offset = omega (arith, w.offset-is, c.loop-n.invariant.offset, last, next, length_less (15 - c.loop-n.n) c.args.list low w.if-list-k-eq1.false);
        grown =
            push_past c.args.grown.now c.args.fact.now c.args.list (15 - c.loop-n.n) (some_if c.loop-n.fits c.loop-n.grown) (some_if c.if-list-k-eq1.fits c.if-list-k-eq1.grown) low w.if-list-k-eq1.false was (same_placed _ _ _ _ w.fits-is w.grown-is)
            ∙ ap (with_push_saves c.args.grown.now c.args.fact.now) (at_next c.loop-n.n c.args.list c.loop-n-test.true);
      }
    ]

pub returns : goal.returns
returns c = push_end c.args.grown.now c.args.fact.now c.args.list c.loop-n.n (some_if c.loop-n.fits c.loop-n.grown) (omega arith) c.loop-n.invariant.grown
