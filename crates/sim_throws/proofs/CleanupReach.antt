-- After a throw's landing in a cleanup the barrier is within reach, over the frames from the entered activation on.
use Rattle.std.proofs.Common.{◌≡◌, ℕ, true, ◌∷◌, None, ap, subst, ◌∙◌}
use Rattle.eh_bytecode.specs.declared.frame.Vrs.{Vrs}
use Rattle.eh_phase.specs.Cleanups.{is_reached}
use Rattle.eh_phase.specs.Laws.{goal_of}
use Rattle.eh_phase.specs.Phases.{phase1, phase2}
use Rattle.eh_phase.specs.Verdict.{Meeting}
use Rattle.eh_phase.specs.declared.phase1.Barrier.{Barrier}
use Rattle.thumb_core.specs.Registers.{all_of}
use Rattle.thumb_core.specs.declared.regs.TheConstants.{SP}
use Rattle.sim_machines.specs.frame_check.Accepts.{Accepted}
use Rattle.sim_machines.specs.Activations.{Recorded, reg_in, first_place, frames_at}
use Rattle.eh_phase.specs.declared.phase1.Found.TheVariants as found
use Rattle.eh_phase.specs.declared.phase2.Entered.TheVariants as enters
use Rattle.sim_frames.specs.Frames.{ThrowsAt}
use Rattle.sim_frames.specs.sim_relation.Stands.{Keeps, IsProgram}
use Rattle.sim_throws.proofs.FramesAfter.{frames_after}
use Rattle.sim_frames.specs.Landings.{LandsIn, ReachesOn}
use Rattle.sim_throws.proofs.ThrowLands.{recorded_frames, throw_lands}
use Rattle.sim_throws.proofs.ThrowReached.{throw_in_order, throw_reached}

module _ (x : Accepted) (is : IsProgram x) (s : Recorded) (k : Keeps x s) (site : ℕ) (throws : ThrowsAt x s site) (m : Meeting) (b : Barrier)
    (search : phase1 m (recorded_frames x is s k site throws (first_place s.cleanups)) ≡ found.Barrier b) where
  abbrev there : LandsIn (goal_of b) 0 s.home.1 (reg_in s SP) (recorded_frames x is s k site throws None).frames (s.first ∷ s.outer) (phase2 (goal_of b) 0 (recorded_frames x is s k site throws None))
  there = throw_lands x is s k site throws m b search

  pub cleanup_reach : (vrs : Vrs) (pad next at : ℕ) → phase2 (goal_of b) 0 (recorded_frames x is s k site throws None) ≡ enters.Cleanup vrs pad next at
      → is_reached (goal_of b) next (frames_at x.image None there.frame.site there.frame.r there.first there.more).frames ≡ true
  cleanup_reach vrs pad next at e =
      let on = subst (ReachesOn (goal_of b) there.frame there.outer) e (there.reach (throw_in_order x is s k site throws) (throw_reached x is s k site throws m b search)) in
      ap (is_reached (goal_of b) next) (frames_after x.image site (all_of s.regs) s.first s.outer there.inner there.frame there.outer there.cut there.first there.more there.frames there.all there.beside) ∙ on
