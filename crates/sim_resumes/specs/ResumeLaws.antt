-- The end of a cleanup: the activation outside the gate's is the cleanup's.
use Rattle.std.specs.Prelude.{◌≡◌, ℕ, List, ◌∷◌}
use Rattle.frame_check.specs.Accepts.{Accepted}
use Rattle.sim_machines.specs.Activations.{Recorded, InProgress}
use Rattle.sim_steps.specs.sim_relation.Chain.{Chain}
use Rattle.sim_steps.specs.sim_relation.Cleanups.{goal_at, AreInProgress}
use Rattle.sim_resumes.specs.Outside.{IsOutside}

abbrev pub CleanupsAreOutside : Type 0
CleanupsAreOutside = (x : Accepted) (s : Recorded) (low : ℕ) (c : InProgress) (cleanups : List InProgress) → Chain x s.segments s.home s.first.caller s.outer
    → AreInProgress x s low (c ∷ cleanups) → s.first.caller.sp ≡ c.cleanup.sp → IsOutside x s.segments (goal_at s c.cleanup.slot) c.place c.cleanup s.outer
