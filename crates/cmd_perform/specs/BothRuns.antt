-- A run of an accepted image from its start, by the machine over bytes, which the program runs, and by the machine with recorded
-- activations (docs/rules/machine.md).
use Rattle.std.specs.Prelude.{ℕ, ◌≡◌, ◌+◌, ◌%◌, ◌==◌, ◌<◌, ◌≤◌, true, List, ◌∷◌, Err}
use Rattle.eh_bus.specs.Lists.{Has}
use Rattle.eh_bus.specs.Memory.{store}
use Rattle.eh_bus.specs.Place.{IsWidth}
use Rattle.eh_bus.specs.Segment.{AreBytes}
use Rattle.eh_bus.specs.declared.fault.BusFault.TheVariants.{SavedSlot}
use Rattle.eh_gates.specs.State.{State}
use Rattle.sim_machines.specs.ActivationMachine.{recorded_machine}
use Rattle.sim_machines.specs.Activations.{Recorded, recorded_start, slots_of}
use Rattle.sim_machines.specs.Checked.{program_of}
use Rattle.sim_machines.specs.Machine.{machine_of}
use Rattle.sim_machines.specs.Start.{start_of}
use Rattle.eh_trace.specs.Trace.{Trace}
use Rattle.run_events.specs.Laws.{SameRan}
use Rattle.run_events.specs.Runs.{Ran, machine_run}
use Rattle.frame_check.specs.Accepts.{Accepted}
use Rattle.thumb_core.specs.declared.ends.End.{End}

abbrev pub bytes_run : ℕ → Accepted → List ℕ → Ran State End
bytes_run budget a input = machine_run (machine_of (program_of a)) budget (start_of (program_of a)) input

-- its returns, throws and ends of cleanups use what was recorded at the calls
abbrev pub recorded_run : ℕ → Accepted → List ℕ → Ran Recorded End
recorded_run budget a input = machine_run (recorded_machine (program_of a)) budget (recorded_start (program_of a)) input

-- the events that a state has
abbrev pub bytes_events : State → Trace
bytes_events s = s.events

abbrev pub recorded_events : Recorded → Trace
recorded_events s = s.events

-- ---- what holds of both

abbrev pub HaveSameEvents : State → Recorded → Type 0
HaveSameEvents s t = bytes_events s ≡ recorded_events t

-- On an input of bytes both have the same output, the same end, the same rest of the input, and last states with the same events.
abbrev pub RunSame : Accepted → Type 0
RunSame a = (budget : ℕ) (input : List ℕ) → AreBytes input → SameRan HaveSameEvents (bytes_run budget a input) (recorded_run budget a input)

-- In every state of a run, an aligned store to a slot of a live activation is refused with the slot's address, and stores nothing.
abbrev pub RefusesStores : Accepted → List ℕ → Type 0
RefusesStores a input = (count width at value slot : ℕ) → IsWidth width → (at % width == 0) ≡ true
    → Has (slots_of ((recorded_run count a input).state.first ∷ (recorded_run count a input).state.outer)) slot → slot ≤ at → at < slot + 4
    → store width (bytes_run count a input).state.memory at value ≡ (Err (SavedSlot slot), (bytes_run count a input).state.memory)

abbrev pub SlotsStay : Accepted → Type 0
SlotsStay a = (input : List ℕ) → AreBytes input → RefusesStores a input
