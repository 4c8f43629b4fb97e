use Rattle.std.proofs.Common.{zero, suc, [], ◌∷◌, inl, arith}
use Rattle.std.specs.Prelude.{All}
use Rattle.eh_word.specs.Bytes.{length-zeros}
use Rattle.eh_bus.specs.Built.{Fits}
use Rattle.eh_bus.specs.declared.segment.SegmentSpec.{SegmentSpec}
use Rattle.eh_bus.proofs.MapLaws.{two_apart}
use Rattle.test_core.proofs.words.memories.sample.Goals as goal

two_fit : (s t : SegmentSpec) → Fits s → Fits t → All Fits (s ∷ t ∷ [])
two_fit s t f g zero d h = f
two_fit s t f g (suc zero) d h = g
two_fit s t f g (suc (suc k)) d h = absurd (omega arith)

pub returns : goal.returns
returns c = record {
  fit = two_fit _ _ (omega arith, omega arith) (omega arith, omega arith);
  apart = two_apart _ _ (inl (omega (arith, length-zeros 8)));
  few = omega arith;
}
