-- The landing pads of one throw are the cleanups that are due, in order, and then its barrier (docs/inside/simulation.md).
use Rattle.std.specs.Prelude.{ℕ, None, Some, List, ◌∷◌, ◌≡◌}
use Rattle.run_events.specs.Runs.{ReachedState, reach_state, Ends}
use Rattle.eh_phase.specs.Cleanups.{remaining_landings}
use Rattle.eh_phase.specs.Laws.{goal_of, Lands}
use Rattle.eh_phase.specs.Phases.{Frames, phase2}
use Rattle.eh_phase.specs.declared.phase1.Barrier.{Barrier}
use Rattle.eh_phase.specs.declared.phase1.Found.TheVariants as found
use Rattle.eh_phase.specs.declared.verdict.Thrown.{Thrown}
use Rattle.eh_cxa.specs.Words.{block}
use Rattle.eh_gates.specs.declared.gates.TheConstants.{END_CLEANUP_GATE}
use Rattle.eh_gates.specs.declared.state.Turned.TheVariants.{Went}
use Rattle.thumb_core.specs.declared.ends.Cause.{Cause}
use Rattle.thumb_core.specs.declared.ends.Cause.TheVariants as cause
use Rattle.thumb_core.specs.declared.ends.End.TheVariants as the_end
use Rattle.frame_check.specs.Accepts.{Accepted}
use Rattle.run_images.specs.Profiles.{profile_of}
use Rattle.sim_machines.specs.Activations.{Recorded, recorded_start, bytes_of}
use Rattle.sim_machines.specs.ActivationMachine.{recorded_event, phase1_result, frames_from}
use Rattle.sim_machines.specs.Checked.{program_of}
use Rattle.sim_machines.specs.Program.{program_tables}
use Rattle.sim_relation.specs.Stands.{Keeps, IsProgram}
use Rattle.sim_runs.specs.Turned.{AreBytes}
use Rattle.sim_runs.specs.sim_resumes.Flying.{all_frames, fly_from, CanFly}
use Rattle.sim_landings.specs.Landings.{gate_at, ThrowsWhat, stands_at, landings, resumes_of, flight_of, pads, AreFirst}
use Rattle.sim_landings.specs.ByteLandings.{byte_landings}
use Rattle.sim_landings.specs.Due.{DueAfter}

-- ---- one event

-- for every exception except one that it throws, an event enters the pad that is due next or leaves the pads that are due
abbrev pub DueGoesOn : Type 0
DueGoesOn = (x : Accepted) (s : Recorded) (input : List ℕ) (slot : ℕ) → IsProgram x → Keeps x s → AreBytes input
    → DueAfter x.image s slot (recorded_event (program_of x) s input)

-- ---- throws, from any state with the invariants

-- the frames of all live activations, the first at pc
abbrev pub live_frames : Accepted → Recorded → Frames
live_frames x s = frames_from (program_tables (program_of x)) s None s.regs.pc

-- If the search of a throw finds a barrier, phase 2 enters a cleanup or the barrier. The landings of the throw and its resumes, along the
-- run from there, are the first of this list: its cleanups in order, and then its barrier.
pub record LandsInOrder (x : Accepted) (s : Recorded) (input : List ℕ) (slot m : ℕ) (b : Barrier) : Type 0 where
  pub enters : Lands (phase2 (goal_of b) 0 (live_frames x s))
  pub order : AreFirst (flight_of slot (landings (program_of x) m s input)) (pads (remaining_landings (goal_of b) 0 (live_frames x s).frames))

abbrev pub ThrowsLandInOrder : Type 0
ThrowsLandInOrder = (x : Accepted) (s : Recorded) (input : List ℕ) (slot m : ℕ) (thrown : Thrown) (b : Barrier) → IsProgram x → Keeps x s → AreBytes input → ThrowsWhat (profile_of x.image) s slot thrown
    → phase1_result (program_tables (program_of x)) s thrown ≡ found.Barrier b → LandsInOrder x s input slot m b

-- The end of a cleanup terminates a run only by an exception specification without a pad.
abbrev pub ResumesLand : Type 0
ResumesLand = (x : Accepted) (s : Recorded) (input : List ℕ) (why : Cause) (t : Recorded) → IsProgram x → Keeps x s → AreBytes input → gate_at (profile_of x.image) s ≡ Some END_CLEANUP_GATE
    → recorded_event (program_of x) s input ≡ Ends (the_end.Terminate why) t → why ≡ cause.Unexpected

-- ---- flights

-- For any exception that is in flight and in no cleanup, and any barrier within reach: where it lands, and where its resumes land in a run
-- from there, are the first of this list: the cleanups in order, and then that barrier.
abbrev pub FlightsLandInOrder : Type 0
FlightsLandInOrder = (x : Accepted) (s : Recorded) (site slot : ℕ) (b : Barrier) (t : Recorded) (m : ℕ) (input : List ℕ) → IsProgram x → Keeps x s → CanFly x s site slot b → AreBytes input
    → fly_from (program_tables (program_of x)) site (block slot) b s ≡ (Went, t)
    → AreFirst (stands_at t ∷ resumes_of slot (landings (program_of x) m t input)) (pads (remaining_landings (goal_of b) 0 (all_frames x s site).frames))

-- ---- runs from the start

-- the state of a run after so many events
abbrev pub StandsAt : Accepted → ℕ → List ℕ → ReachedState Recorded → Type 0
StandsAt x n input r = reach_state (recorded_event (program_of x)) n (recorded_start (program_of x)) input ≡ Some r

pub record LandsAt (x : Accepted) (s : Recorded) (input : List ℕ) : Type 0 where
  pub throws : (slot m : ℕ) (thrown : Thrown) (b : Barrier) → ThrowsWhat (profile_of x.image) s slot thrown → phase1_result (program_tables (program_of x)) s thrown ≡ found.Barrier b → LandsInOrder x s input slot m b
  pub resumes : (why : Cause) (t : Recorded) → gate_at (profile_of x.image) s ≡ Some END_CLEANUP_GATE → recorded_event (program_of x) s input ≡ Ends (the_end.Terminate why) t → why ≡ cause.Unexpected

abbrev pub RunsLandInOrder : Type 0
RunsLandInOrder = (x : Accepted) (n : ℕ) (input : List ℕ) (r : ReachedState Recorded) → IsProgram x → AreBytes input → StandsAt x n input r → LandsAt x r.state r.left

-- ---- over bytes

-- the machine that unwinds lands each exception at the same pads, with the same sp, as the one with recorded activations
abbrev pub LandingsSame : Type 0
LandingsSame = (x : Accepted) (s : Recorded) (n : ℕ) (input : List ℕ) → IsProgram x → Keeps x s → AreBytes input → byte_landings (program_of x) n (bytes_of s) input ≡ landings (program_of x) n s input
