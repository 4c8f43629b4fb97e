-- Where the gate's activation was called at the landing sp of the innermost cleanup in progress, the activation outside it is the cleanup's.
use Rattle.std.proofs.Common.{◌≡◌, ℕ, inl, inr, List, [], ◌∷◌, refl, arith}
use Rattle.eh_bus.specs.Segment.{Segment}
use Rattle.eh_cxa.specs.Lists.{Cleanup}
use Rattle.eh_phase.specs.declared.phase2.Goal.{Goal}
use Rattle.frame_check.specs.Accepts.{Accepted}
use Rattle.sim_machines.specs.Activations.{Activation, Recorded, InProgress}
use Rattle.sim_steps.specs.sim_relation.Chain.{Chain}
use Rattle.sim_steps.specs.sim_relation.Cleanups.{IsHeld, goal_at, AreInProgress}
use Rattle.sim_resumes.specs.Outside.{IsOutside}

pub held_outside : (x : Accepted) (segments : List Segment) (home : ℕ × ℕ) (g : Goal) (n : ℕ) (c : Cleanup) (a : Activation) (outer : List Activation) → Chain x segments home a.caller outer
    → IsHeld x segments g n c (a ∷ outer) → a.caller.sp ≡ c.sp → IsOutside x segments g n c outer
held_outside x segments home g n c a outer ch (inl here) e = absurd (let b = here.1.below in omega (arith, b, e))
held_outside x segments home g n c a [] ch (inr outside) e = absurd outside.1
held_outside x segments home g n c a (b ∷ more) ch (inr outside) e = go outside.1
  where
    go : IsHeld x segments g n c (b ∷ more) → IsOutside x segments g n c (b ∷ more)
    go (inl here) = record { first = b; more = more; is = refl; place = here.0; entered = here.1 }
    go (inr beyond) = absurd (let room = ch.0.room in let low = beyond.0 in omega (arith, room, low, e))

-- of a state: the innermost of its cleanups
pub innermost_outside : (x : Accepted) (s : Recorded) (low : ℕ) (c : InProgress) (cleanups : List InProgress) → Chain x s.segments s.home s.first.caller s.outer
    → AreInProgress x s low (c ∷ cleanups) → s.first.caller.sp ≡ c.cleanup.sp → IsOutside x s.segments (goal_at s c.cleanup.slot) c.place c.cleanup s.outer
innermost_outside x s low c cleanups ch h e = held_outside x s.segments s.home (goal_at s c.cleanup.slot) c.place c.cleanup s.first s.outer ch h.1 e
