use Rattle.std.proofs.Common.{◌≡◌, ◌<◌, ◌^◌}
use Rattle.frame_check.specs.Pushes.{word_bits}
use Rattle.frame_check.proofs.pushes.word_bits.Given as goal

abbrev pub invariant-loop-k : goal.invariant-loop-k
invariant-loop-k l = record {
  few : l.bits < 2 ^ l.k;
  bits : l.bits ≡ word_bits l.p l.lowest l.k;
}
