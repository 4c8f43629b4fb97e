-- The landing pads of a forced unwinding are the cleanups on the way to its stop, in order, and then the stop's pad
-- (docs/guide/walks-and-threads.md, "What is proved").
use Rattle.std.specs.Prelude.{ℕ, ◌≡◌, ◌<◌, ◌^◌, ◌⊎◌, List, ◌∷◌, Some, None, is_some, Ok}
use Rattle.eh_cxa.specs.ListCalls.{allocate_list, innermost_in}
use Rattle.eh_cxa.specs.Words.{object}
use Rattle.eh_phase.specs.Cleanups.{remaining_landings}
use Rattle.eh_phase.specs.Laws.{goal_of}
use Rattle.eh_phase.specs.Phases.{Frames, phase2}
use Rattle.eh_phase.specs.declared.phase2.Entered.TheVariants as enters
use Rattle.eh_types.specs.Graph.{row_of}
use Rattle.frame_check.specs.Accepts.{Accepted}
use Rattle.thumb_core.specs.Registers.{all_of}
use Rattle.sim_machines.specs.Activations.{Recorded, memory_of, lists_of, cleanups_in, frames_at}
use Rattle.sim_machines.specs.Checked.{program_of}
use Rattle.sim_relation.specs.Stands.{Keeps, IsProgram}
use Rattle.sim_landings.specs.sim_runs.Turned.{AreBytes}
use Rattle.sim_landings.specs.Landings.{stands_at, landings, resumes_of, pads, AreFirst}
use Rattle.eh_walk.specs.Forced.{recorded_force_outcome, stop_barrier}
use Rattle.eh_walk.specs.Sites.{site_state}
use Rattle.eh_walk.specs.Stops.{stop_at}
use Rattle.eh_walk.specs.declared.stopping.StopFrame.{StopFrame}

-- the frames of the activations, from a site of the first outwards
abbrev pub frames_on : Accepted → Recorded → ℕ → Frames
frames_on x s site = frames_at x.image None site (all_of s.regs) s.first s.outer

-- If the forced unwinding wasn't refused, there are the state's site, the stop in the frame asked for, and the slot of its exception. It
-- lands in a state t, and its resumes land along the run from there. These landings are the first of this list: the cleanups in scope of
-- the frames inside the stop's, the cleanups of its own frame before it, and then the stop itself. Or further inside, at the stop's
-- descriptor address and sp, there is a specification without a pad, and nothing is entered.
pub record ForcedInOrder (x : Accepted) (s : Recorded) (number type m : ℕ) (input : List ℕ) (t : Recorded) : Type 0 where
  pub site : ℕ
  pub at : site_state (program_of x) s.regs (memory_of s) ≡ Some site
  pub stop : StopFrame
  pub found : stop_at (innermost_in (cleanups_in s.cleanups)) (is_some (row_of x.types type)) number (frames_on x s site).frames ≡ Ok stop
  pub slot : ℕ
  pub thrown : (allocate_list (lists_of s) 0).answer ≡ Ok (object slot)
  pub order :
      AreFirst (stands_at t ∷ resumes_of slot (landings (program_of x) m t input)) (pads (remaining_landings (goal_of (stop_barrier (object slot) stop)) 0 (frames_on x s site).frames))
      ⊎ (phase2 (goal_of (stop_barrier (object slot) stop)) 0 (frames_on x s site) ≡ enters.Unexpected)

abbrev pub ForcingsLandInOrder : Type 0
ForcingsLandInOrder = (x : Accepted) (s : Recorded) (number type m : ℕ) (input : List ℕ) (t : Recorded) → IsProgram x → Keeps x s → type < 2 ^ 32 → AreBytes input
    → recorded_force_outcome (program_of x) number type s ≡ (Ok tt, t) → ForcedInOrder x s number type m input t
