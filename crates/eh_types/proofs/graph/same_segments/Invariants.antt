use Rattle.std.proofs.Common.{◌≡◌, take}
use Rattle.eh_types.proofs.graph.same_segments.Given as goal

abbrev pub invariant-loop-segment : goal.invariant-loop-segment
invariant-loop-segment l = l.same.items ≡ take l.segment-index l.segments
