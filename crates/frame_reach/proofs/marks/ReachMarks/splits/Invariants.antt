use Rattle.std.proofs.Common.{ℕ, ◌≡◌, ◌<◌, false}
use Rattle.std.specs.Prelude.{slice_index}
use Rattle.frame_reach.specs.Held.{splits_at}
use Rattle.frame_reach.proofs.marks.ReachMarks.splits.Given as goal

abbrev pub invariant-loop-place : goal.invariant-loop-place
invariant-loop-place l = (k : ℕ) → k < l.place-index → splits_at l.flow_graph (slice_index l.self.places k) ≡ false
