use Rattle.std.proofs.Common.{arith, refl, sym}
use Rattle.std.proofs.lemmas.Grind.{common_steps}
use Rattle.thumb_ahead.proofs.Stored.{one_more, no_word}
use Rattle.thumb_ahead.proofs.undo_record.record_words.Goals as goal

pub loop-k-init : goal.loop-k-init
loop-k-init g c = record { count = grind (arith, common_steps); so_far = λ low i l. absurd (omega (arith, l)) }

pub loop-k-preserved : goal.loop-k-preserved
loop-k-preserved g c = record {
  count = grind (arith, common_steps);
  so_far = one_more (g.B.Bus.memory c.args.bus.now) c.args.at c.args.count c.loop-k.k c.loop-k.words c.in-Ok.word (omega arith) (omega arith)
      (sym c.in-Ok.ensures) c.loop-k.invariant.so_far;
}

pub returns-in-Err : goal.returns-in-Err
returns-in-Err g c = λ low can. no_word (g.B.Bus.memory c.args.bus.now) c.args.at c.args.count c.loop-k.k c.in-Err.field-0 _ (omega arith) (sym c.in-Err.ensures) low can

pub returns : goal.returns
returns g c = λ low can. record {
  words = c.loop-k.words;
  is = refl;
  count = c.loop-k.invariant.count;
  all = λ i l. c.loop-k.invariant.so_far low i (omega (arith, l));
}
