use Rattle.std.proofs.Common.{sym, ◌∙◌}
use Rattle.asm_read.proofs.Rising.{row_miss, row_rises}
use Rattle.asm_read.proofs.choice.first_fit.Goals as goal

-- a form of the word that doesn't fit
pub loop-row-preserved : goal.loop-row-preserved
loop-row-preserved c =
    let rs = c.args.rows.now in
    let i = c.loop-row.row-index in
    let is_word = sym c.if-not-is_same.ensures in
    record {
      stop = c.in-Err.ensures.stop;
      rise = row_rises rs i _ c.args.word.now c.loop-row-test.true is_word c.loop-row.invariant.rise;
      fit = sym (row_miss c.args.word.now c.args.line.now c.args.from rs i _ c.loop-row.so_far c.in-Err.stop c.loop-row-test.true is_word (sym c.try_form.ensures.fit ∙ c.in-Err.is)) ∙ c.loop-row.invariant.fit;
    }
