use Rattle.std.proofs.Common.{refl, arith, ap, ◌∙◌, ◌+◌}
use Rattle.frame_check.specs.Pushes.{word_bits}
use Rattle.frame_check.proofs.Counting.{bits_more, few_more}
use Rattle.frame_check.proofs.pushes.word_bits.Goals as goal

pub loop-k-init : goal.loop-k-init
unfolding word_bits
loop-k-init c = record { few = omega arith; bits = refl }

pub loop-k-preserved : goal.loop-k-preserved
loop-k-preserved c = record {
  few = few_more c.loop-k.k c.loop-k.bits c.word_bit-bits.result c.loop-k.invariant.few c.word_bit-bits.ensures.most;
  bits = ap (λ n. c.loop-k.bits + n) c.word_bit-bits.ensures.bit ∙ bits_more c.args.p.now c.args.lowest c.loop-k.k c.loop-k.bits c.loop-k.invariant.bits;
}
