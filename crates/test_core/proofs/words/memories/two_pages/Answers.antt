use Rattle.std.proofs.Common.{zero, suc, [], ◌∷◌, arith}
use Rattle.std.specs.Prelude.{All}
use Rattle.eh_bus.specs.Built.{Fits}
use Rattle.eh_bus.specs.declared.segment.SegmentSpec.{SegmentSpec}
use Rattle.eh_bus.proofs.MapLaws.{one_apart}
use Rattle.test_core.proofs.words.memories.two_pages.Goals as goal

one_fits : (s : SegmentSpec) → Fits s → All Fits (s ∷ [])
one_fits s f zero d h = f
one_fits s f (suc k) d h = absurd (omega arith)

pub build-requires : goal.build-requires
build-requires c = record { fit = one_fits _ (omega arith, omega arith); apart = one_apart _; few = omega arith }
