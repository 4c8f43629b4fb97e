use Rattle.std.proofs.Common.{◌≡◌, take}
use Rattle.std.specs.Prelude.{map}
use Rattle.run_images.specs.Placing.{segment_asked_for}
use Rattle.run_images.proofs.memory.places.Given as goal

-- the segments so far
abbrev pub invariant-loop-segment : goal.invariant-loop-segment
invariant-loop-segment l = map segment_asked_for l.all.items ≡ take l.segment-index l.segments
