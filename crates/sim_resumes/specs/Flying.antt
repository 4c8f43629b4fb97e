-- An exception that flies to its barrier from any site of the first activation, at a gate or in a call; and the end of a cleanup, after
-- which its exception flies on.
use Rattle.std.specs.Prelude.{ℕ, None, ◌∷◌, ◌≡◌, ◌<◌, ◌^◌, true}
use Rattle.eh_phase.specs.Phases.{Frames, phase2, phase1}
use Rattle.thumb_core.specs.Registers.{all_of}
use Rattle.frame_check.specs.Accepts.{Accepted}
use Rattle.sim_machines.specs.Activations.{Recorded, frames_at, with_words, bytes_of, first_place, cleanups_in}
use Rattle.eh_cxa.specs.Throw.{set_barrier_of}
use Rattle.eh_cxa.specs.Words.{block_slot, block}
use Rattle.eh_phase.specs.Laws.{goal_of}
use Rattle.eh_phase.specs.declared.phase1.Barrier.{Barrier}
use Rattle.eh_gates.specs.State.{Tables}
use Rattle.eh_gates.specs.Throwing.{handler_object, barrier_words, throw_to}
use Rattle.eh_phase.specs.Cleanups.{is_reached}
use Rattle.sim_machines.specs.Landings.{IsInFlight}
use Rattle.sim_machines.specs.Checked.{program_of}
use Rattle.sim_machines.specs.Corresponds.{GateMatches}
use Rattle.sim_machines.specs.Program.{program_tables}
use Rattle.eh_phase.specs.Verdict.{Meeting}
use Rattle.thumb_core.specs.declared.ends.Cause.{Cause}
use Rattle.eh_gates.specs.Gates.{gate_of}
use Rattle.eh_gates.specs.declared.gates.TheConstants.{END_CLEANUP_GATE}
use Rattle.eh_gates.specs.declared.state.Turned.TheVariants.{Ended}
use Rattle.sim_machines.specs.ActivationMachine as acts
use Rattle.eh_phase.specs.Laws as phase_law
use Rattle.eh_phase.specs.declared.phase1.Found.TheVariants as found
use Rattle.thumb_core.specs.declared.ends.Cause.TheVariants as cause
use Rattle.thumb_core.specs.declared.ends.End.TheVariants as the_end
use Rattle.sim_steps.specs.sim_relation.Cleanups.{IsWithin}
use Rattle.sim_throws.specs.sim_frames.Frames.{ThrowsAt}
use Rattle.sim_steps.specs.sim_relation.Stands.{Keeps, IsProgram}

-- the frames of all activations, from a site of the first outwards
abbrev pub all_frames : Accepted → Recorded → ℕ → Frames
all_frames x s site = frames_at x.image None site (all_of s.regs) s.first s.outer

-- The barrier is written, and phase 2 goes to it from the site, as a throw of the machine with recorded activations does.
abbrev pub fly_from : Tables → ℕ → ℕ → Barrier → Recorded → acts.Outcome
fly_from g site control b s =
    acts.advances (with_words (set_barrier_of (block_slot control) (barrier_words control b)) s) (s.first ∷ s.outer) control (handler_object control b.hit) (goal_of b) 0
    (frames_at g.image None site (all_of s.regs) s.first s.outer)

abbrev pub GatesFly : Type 0
GatesFly = (g : Tables) (site control : ℕ) (b : Barrier) (s : Recorded) → acts.throw_to g site control b s ≡ fly_from g site control b s

-- The exception of a slot is in flight and none of its cleanups is in progress. Its barrier is within reach from the site, at or below the
-- landing sp of the innermost cleanup in progress.
pub record CanFly (x : Accepted) (s : Recorded) (site slot : ℕ) (b : Barrier) : Type 0 where
  pub throws : ThrowsAt x s site
  pub flight : IsInFlight s slot
  pub sp : (barrier_words (block slot) b).sp < 2 ^ 32
  pub object : (barrier_words (block slot) b).object < 2 ^ 32
  pub desc : (barrier_words (block slot) b).desc < 2 ^ 32
  pub pointer : (barrier_words (block slot) b).pointer < 2 ^ 32
  pub reached : is_reached (goal_of b) 0 (all_frames x s site).frames ≡ true
  pub within : IsWithin b.sp (cleanups_in s.cleanups)

-- Then both machines do the same, phase 2 enters a cleanup or the barrier, and the states after it stand for each other.
pub record Flies (x : Accepted) (s : Recorded) (site slot : ℕ) (b : Barrier) : Type 0 where
  pub same : GateMatches (throw_to (program_tables (program_of x)) (bytes_of s) site (block slot) b) (fly_from (program_tables (program_of x)) site (block slot) b s)
  pub keeps : Keeps x (fly_from (program_tables (program_of x)) site (block slot) b s).1
  pub lands : phase_law.Lands (phase2 (goal_of b) 0 (all_frames x s site))

abbrev pub FlightsMatch : Type 0
FlightsMatch = (x : Accepted) (s : Recorded) (site slot : ℕ) (b : Barrier) → IsProgram x → Keeps x s → CanFly x s site slot b → Flies x s site slot b

-- a barrier that a search finds is within reach
abbrev pub SearchesReach : Type 0
SearchesReach = (x : Accepted) (s : Recorded) (site : ℕ) (m : Meeting) (b : Barrier) → IsProgram x → Keeps x s → ThrowsAt x s site
    → phase1 m (frames_at x.image (first_place s.cleanups) site (all_of s.regs) s.first s.outer) ≡ found.Barrier b
    → (is_reached (goal_of b) 0 (all_frames x s site).frames ≡ true) × IsWithin b.sp (cleanups_in s.cleanups)

-- The end of a cleanup does the same in both machines, and the invariants hold after it. Phase 2 that goes on there always enters a pad,
-- unless it meets an exception specification without one.
pub record CleanupEnds (x : Accepted) (s : Recorded) (next : ℕ) : Type 0 where
  pub same : GateMatches (gate_of (program_tables (program_of x)) END_CLEANUP_GATE next (bytes_of s)) (acts.gate_of (program_tables (program_of x)) END_CLEANUP_GATE next s)
  pub keeps : Keeps x (acts.gate_of (program_tables (program_of x)) END_CLEANUP_GATE next s).1
  pub lands : (why : Cause) → (acts.gate_of (program_tables (program_of x)) END_CLEANUP_GATE next s).0 ≡ Ended (the_end.Terminate why) → why ≡ cause.Unexpected
