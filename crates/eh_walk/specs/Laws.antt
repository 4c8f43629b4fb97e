-- What holds of walks on an accepted image, in recorded activations (docs/guide/walks-and-threads.md, "What is proved").
use Rattle.std.specs.Prelude.{ℕ, ◌≡◌, ◌<◌, ◌^◌, List, Option, Result}
use Rattle.eh_bus.specs.Memory.{Memory}
use Rattle.eh_trace.specs.Trace.{Trace}
use Rattle.run_events.specs.Laws.{SameRan}
use Rattle.run_events.specs.Runs.{machine_run}
use Rattle.eh_phase.specs.Phases.{Frames}
use Rattle.eh_gates.specs.declared.state.Core.{Core}
use Rattle.eh_gates.specs.State.{State, state_of}
use Rattle.frame_check.specs.Accepts.{Accepted}
use Rattle.sim_machines.specs.ActivationMachine.{recorded_machine}
use Rattle.sim_machines.specs.Activations.{Recorded, recorded_start}
use Rattle.sim_machines.specs.Checked.{program_of}
use Rattle.sim_machines.specs.Machine.{machine_of}
use Rattle.sim_machines.specs.Start.{start_of}
use Rattle.sim_relation.specs.Stands.{IsProgram, StandsFor}
use Rattle.eh_machine.specs.sim_runs.Turned.{AreBytes}
use Rattle.eh_machine.specs.Follows.{Follows}
use Rattle.eh_walk.specs.declared.walk.Backtrace.{Backtrace}
use Rattle.eh_walk.specs.declared.stopping.ForceFault.{ForceFault}
use Rattle.eh_walk.specs.Forced.{force_outcome, recorded_force_outcome}
use Rattle.eh_walk.specs.Reaching.{Onward, run_to_site, recorded_run_to_site}
use Rattle.eh_walk.specs.Walks.{IsWalk, walk_frames, end_of_walk, walk_of, recorded_walk}

-- ---- a walk

-- The registers, globals and memory may stand for a state with recorded activations, whatever its events are. For each such state the walk
-- is the one over its activations.
abbrev pub WalksActivations : Accepted → Core → Memory → ℕ → Backtrace → Type 0
WalksActivations x core m most t = (events : Trace) → Follows x (state_of core m events) (λ s. IsWalk most (recorded_walk (program_of x) s) t)

-- two lists of frames that give the same frames to every walk
pub record SameWalks (one two : Option Frames) : Type 0 where
  pub frames : (most : ℕ) → walk_frames most one ≡ walk_frames most two
  pub end : (most : ℕ) → end_of_walk most one ≡ end_of_walk most two

-- states that stand for each other have the same walks
abbrev pub WalksSame : Type 0
WalksSame = (x : Accepted) (b : State) (s : Recorded) → IsProgram x → StandsFor x b s → SameWalks (walk_of (program_of x) b.regs b.memory) (recorded_walk (program_of x) s)

-- ---- forced unwinding

-- the machine with recorded activations refuses or does the same, and the new state stands for its new state
pub record ForcedAlike (x : Accepted) (number type : ℕ) (s : Recorded) (result : Result (Unit {0}) ForceFault) (new : State) : Type 0 where
  pub answer : result ≡ (recorded_force_outcome (program_of x) number type s).0
  pub stands : StandsFor x new (recorded_force_outcome (program_of x) number type s).1

-- for each state with recorded activations that this one stands for
abbrev pub ForcesActivations : Accepted → ℕ → ℕ → State → Result (Unit {0}) ForceFault → State → Type 0
ForcesActivations x number type old result new = Follows x old (λ s. ForcedAlike x number type s result new)

-- forced unwinding does the same from states that stand for each other, for any frame number and any word as the type
abbrev pub ForcingsSame : Type 0
ForcingsSame = (x : Accepted) (b : State) (s : Recorded) (number type : ℕ) → IsProgram x → StandsFor x b s → type < 2 ^ 32
    → ForcedAlike x number type s (force_outcome (program_of x) number type b).0 (force_outcome (program_of x) number type b).1

-- ---- a run to a site

-- states that stand for each other, after the same number of events
pub record OnwardFor (x : Accepted) (o : Onward State) (u : Onward Recorded) : Type 0 where
  pub done : o.done ≡ u.done
  pub stands : StandsFor x o.state u.state

-- from the start, on an input of bytes: the same output, end and rest of the input, and states that stand for each other
abbrev pub ReachesSame : Type 0
ReachesSame = (x : Accepted) (budget : ℕ) (input : List ℕ) → IsProgram x → AreBytes input
    → SameRan (OnwardFor x) (run_to_site (program_of x) budget (start_of (program_of x)) input) (recorded_run_to_site (program_of x) budget (recorded_start (program_of x)) input)

-- what is left of an input of bytes are bytes
abbrev pub ReachesLeaveBytes : Type 0
ReachesLeaveBytes = (x : Accepted) (budget : ℕ) (input : List ℕ) → IsProgram x → AreBytes input → AreBytes (run_to_site (program_of x) budget (start_of (program_of x)) input).left

-- ---- a run that goes on

-- from states that stand for each other, on an input of bytes: the same output, end and rest of the input, and states that stand for each
-- other
abbrev pub GoingOnSame : Type 0
GoingOnSame = (x : Accepted) (n : ℕ) (b : State) (s : Recorded) (input : List ℕ) → IsProgram x → StandsFor x b s → AreBytes input
    → SameRan (StandsFor x) (machine_run (machine_of (program_of x)) n b input) (machine_run (recorded_machine (program_of x)) n s input)
