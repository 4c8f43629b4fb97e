-- One event of any instruction, and runs, are the same in both machines, and the invariants hold after them.
use Rattle.std.specs.Prelude.{ℕ, ◌<◌, List, ◌≡◌, ◌+◌, ◌%◌, ◌==◌, ◌≤◌, true, ◌∷◌, Err}
use Rattle.std.specs.List.{All}
use Rattle.sim_machines.specs.frame_check.Accepts.{Accepted}
use Rattle.sim_machines.specs.Activations.{Recorded, recorded_start, slots_of}
use Rattle.run_events.specs.Runs.{Ran, run}
use Rattle.thumb_core.specs.declared.ends.End.{End}
use Rattle.eh_gates.specs.State.{State}
use Rattle.sim_machines.specs.Machine.{machine_event}
use Rattle.sim_machines.specs.Start.{start_of}
use Rattle.sim_machines.specs.Checked.{program_of}
use Rattle.sim_machines.specs.ActivationMachine.{recorded_event}
use Rattle.run_events.specs.Laws.{SameRan}
use Rattle.eh_trace.specs.Trace.{Trace}
use Rattle.eh_bus.specs.Lists.{Has}
use Rattle.eh_bus.specs.Memory.{store}
use Rattle.eh_bus.specs.Place.{IsWidth}
use Rattle.eh_bus.specs.declared.fault.BusFault.TheVariants.{SavedSlot}
use Rattle.thumb_core.specs.declared.ends.End.TheVariants as the_end
use Rattle.sim_accesses.specs.sim_relation.Stands.{Keeps, IsProgram, Turns, StandsFor}

-- the numbers of an input are bytes: the input gate puts one into r0
abbrev pub AreBytes : List ℕ → Type 0
AreBytes input = All (λ (b : ℕ). b < 256) input

-- one event of any instruction
abbrev pub TurnsSame : Type 0
TurnsSame = (x : Accepted) (s : Recorded) (input : List ℕ) → IsProgram x → Keeps x s → AreBytes input → Turns x s input

-- a run of any length from the start, over bytes and with recorded activations
abbrev pub byte_run : Accepted → ℕ → List ℕ → Ran State End
byte_run x n input = run (machine_event (program_of x)) the_end.Budget n (start_of (program_of x)) input

abbrev pub recorded_run : Accepted → ℕ → List ℕ → Ran Recorded End
recorded_run x n input = run (recorded_event (program_of x)) the_end.Budget n (recorded_start (program_of x)) input

abbrev pub RunsSame : Type 0
RunsSame = (x : Accepted) (n : ℕ) (input : List ℕ) → IsProgram x → AreBytes input → SameRan (StandsFor x) (byte_run x n input) (recorded_run x n input)

-- what a report consists of: the output, the events, the end and the rest of the input
abbrev pub Observation : Type 0
Observation = List ℕ × Trace × End × List ℕ

abbrev pub bytes_observation : Ran State End → Observation
bytes_observation r = (r.text, r.state.events, r.end, r.left)

abbrev pub recorded_observation : Ran Recorded End → Observation
recorded_observation r = (r.text, r.state.events, r.end, r.left)

-- .. is the same in both machines
abbrev pub ReportsSame : Type 0
ReportsSame = (x : Accepted) (n : ℕ) (input : List ℕ) → IsProgram x → AreBytes input → bytes_observation (byte_run x n input) ≡ recorded_observation (recorded_run x n input)

-- in every state of such a run, a store of one, two or four bytes to a slot of an activation is refused with the slot's address, and stores
-- nothing
abbrev pub RunsGuard : Type 0
RunsGuard = (x : Accepted) (n : ℕ) (input : List ℕ) → IsProgram x → AreBytes input
    → (width a v g : ℕ) → IsWidth width → (a % width == 0) ≡ true → Has (slots_of ((recorded_run x n input).state.first ∷ (recorded_run x n input).state.outer)) g → g ≤ a → a < g + 4
    → store width (byte_run x n input).state.memory a v ≡ (Err (SavedSlot g), (byte_run x n input).state.memory)
