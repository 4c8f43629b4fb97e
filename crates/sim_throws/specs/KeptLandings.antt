-- The barrier of a throw and the cleanups in progress.
use Rattle.std.specs.Prelude.{◌≡◌, ℕ, List, slice_index}
use Rattle.eh_phase.specs.Phases.{phase1}
use Rattle.eh_phase.specs.Verdict.{Meeting}
use Rattle.eh_phase.specs.declared.phase1.Barrier.{Barrier}
use Rattle.eh_phase.specs.declared.phase1.Found.TheVariants as found
use Rattle.thumb_core.specs.declared.regs.TheConstants.{SP}
use Rattle.sim_machines.specs.frame_check.Accepts.{Accepted}
use Rattle.sim_machines.specs.Activations.{Recorded, first_place, frames_at, InProgress, cleanups_in}
use Rattle.sim_frames.specs.sim_relation.Chain.{Chain}
use Rattle.sim_frames.specs.sim_relation.Cleanups.{IsWithin, AreInProgress}
use Rattle.sim_frames.specs.sim_relation.Holds.{IsWhole}

-- A barrier that is found from a state with cleanups in progress lies at or below the landing sp of the innermost. So the cleanups outside
-- what it enters stay in progress.
abbrev pub BarriersAreWithin : Type 0
BarriersAreWithin = (x : Accepted) (s : Recorded) (site : ℕ) (r : List ℕ) (m : Meeting) (b : Barrier) → IsWhole s.first.caller → Chain x s.segments s.home s.first.caller s.outer
    → (cleanups : List InProgress) → AreInProgress x s (slice_index r SP) cleanups
    → phase1 m (frames_at x.image (first_place cleanups) site r s.first s.outer) ≡ found.Barrier b → IsWithin b.sp (cleanups_in cleanups)
