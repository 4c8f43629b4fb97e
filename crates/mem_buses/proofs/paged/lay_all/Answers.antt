use Rattle.std.proofs.Common.{[]}
use Rattle.eh_bus.specs.Built.{segment_of}
use Rattle.mem_buses.specs.Pages.{Lays}
use Rattle.eh_bus.proofs.BuiltLemmas.{more_bytes}
use Rattle.mem_buses.proofs.PageBuild.{relay, pool_apart, image_apart, laid_as, laid_more, lays_none}
use Rattle.mem_buses.proofs.paged.lay_all.Goals as goal

pub place_segment-requires-clause-lays : goal.place_segment-requires-clause-lays
place_segment-requires-clause-lays c =
    let l : Lays c.in_ok-pages.pages c.new-parts.result.items [] = rw (c.in_ok-pages.ensures, c.new-parts.ensures.items) lays_none in
    relay _ _ _ l

pub place_segment-requires-2-clause-apart : goal.place_segment-requires-2-clause-apart
place_segment-requires-2-clause-apart c =
    let l : Lays c.in_ok-pages.pages c.new-parts.result.items [] = rw (c.in_ok-pages.ensures, c.new-parts.ensures.items) lays_none in
    let one = rw c.zeros_spec.ensures.segment at (laid_as c.in_ok-pages.pages c.place_segment.new.pages c.new-parts.result.items c.place_segment.new.parts.items [] (segment_of c.zeros_spec.result) l c.in_ok-place_segment.ensures.laid) in
    rw c.zeros_spec-2.ensures.segment (pool_apart c.place_segment.new.pages c.place_segment.new.parts.items c.args.specs.now c.requires one)

pub place_segment-requires-in-loop-spec-clause-apart : goal.place_segment-requires-in-loop-spec-clause-apart
place_segment-requires-in-loop-spec-clause-apart c =
    image_apart c.loop-spec.pages c.loop-spec.parts.items c.args.specs.now c.loop-spec.spec-index _ c.requires c.loop-spec-test.true c.loop-spec.invariant.lays

pub loop-spec-preserved : goal.loop-spec-preserved
loop-spec-preserved c = record {
  lays = laid_more c.loop-spec.pages c.place_segment-in-loop-spec.new.pages c.loop-spec.parts.items c.place_segment-in-loop-spec.new.parts.items c.args.specs.now c.loop-spec.spec-index _ c.loop-spec-test.true c.loop-spec.invariant.lays
      c.in_ok-place_segment-3.ensures.laid;
  bytes = more_bytes c.args.specs.now c.loop-spec.spec-index _ c.loop-spec-test.true c.loop-spec.invariant.bytes c.in_ok-place_segment-3.ensures.bytes;
}
