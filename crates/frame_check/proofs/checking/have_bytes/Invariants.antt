use Rattle.std.proofs.Common.{take}
use Rattle.frame_check.specs.Accepts.{AreBytes}
use Rattle.frame_check.proofs.checking.have_bytes.Given as goal

abbrev pub invariant-loop-segment : goal.invariant-loop-segment
invariant-loop-segment l = AreBytes (take l.segment-index l.segments)
