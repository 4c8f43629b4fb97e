-- The heads of both chains of exceptions over events and runs (docs/rules/machine.md, "The state").
use Rattle.std.specs.Prelude.{ℕ, List}
use Rattle.run_events.specs.Runs.{Event, Goes, Ends, run}
use Rattle.thumb_core.specs.declared.ends.End.{End}
use Rattle.thumb_core.specs.declared.ends.End.TheVariants.{Budget}
use Rattle.eh_gates.specs.State.{State}
use Rattle.eh_gates.specs.Laws.{AreHeads}
use Rattle.sim_machines.specs.Program.{Program}
use Rattle.sim_machines.specs.Machine.{machine_event}

-- the state after an event, whether the run goes on or ends
abbrev pub state_after : Event State End → State
state_after (Goes t text left) = t
state_after (Ends end t) = t

-- if each head is none or a slot's control block, the same holds after every event and every run
pub record HeadsStayHeads : Type 0 where
  pub event : (p : Program) (s : State) (input : List ℕ) → AreHeads s.globals → AreHeads (state_after (machine_event p s input)).globals
  pub run : (p : Program) (n : ℕ) (s : State) (input : List ℕ) → AreHeads s.globals → AreHeads (run (machine_event p) Budget n s input).state.globals
