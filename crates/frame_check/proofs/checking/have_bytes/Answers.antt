use Rattle.std.proofs.lemmas.List.{take_all}
use Rattle.frame_check.proofs.Bytes.{one_more}
use Rattle.frame_check.proofs.checking.have_bytes.Goals as goal

pub loop-segment-preserved : goal.loop-segment-preserved
loop-segment-preserved c = one_more c.args.segments.now c.loop-segment.segment-index _ c.loop-segment-test.true c.loop-segment.invariant (rw c.segment-item.is at c.has_bytes.ensures)

pub returns : goal.returns
returns c = rw (take_all c.loop-segment.segment-index c.args.segments.now c.loop-segment-test.false) at c.loop-segment.invariant
