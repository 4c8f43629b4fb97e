use Rattle.std.proofs.Common.{arith}
use Rattle.std.proofs.lemmas.Grind.{common_steps}
use Rattle.eh_bus.proofs.BuiltLemmas.{more_bytes}
use Rattle.mem_buses.proofs.segments.Segments.build.Goals as goal

pub loop-spec-preserved : goal.loop-spec-preserved
loop-spec-preserved c = record {
  built = grind (arith, common_steps);
  bytes = more_bytes _ _ _ c.loop-spec-test.true c.loop-spec.invariant.bytes c.of.ensures.bytes;
}
