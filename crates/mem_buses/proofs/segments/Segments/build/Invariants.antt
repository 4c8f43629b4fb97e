use Rattle.std.proofs.Common.{◌≡◌, take}
use Rattle.std.specs.Prelude.{All}
use Rattle.eh_bus.specs.Built.{initial_memory}
use Rattle.eh_bus.specs.Segment.{AreBytes}
use Rattle.eh_bus.specs.declared.segment.SegmentSpec.{SegmentSpec}
use Rattle.mem_buses.proofs.segments.Segments.build.Given as goal

abbrev pub invariant-loop-spec : goal.invariant-loop-spec
invariant-loop-spec l = record {
  built : l.all.items ≡ (initial_memory (take l.spec-index l.specs)).segments;
  bytes : All (λ (spec : SegmentSpec). AreBytes spec.bytes.now) (take l.spec-index l.specs);
}
