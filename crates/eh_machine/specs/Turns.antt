-- What one call of the machine guarantees.
use Rattle.std.specs.Prelude.{◌≡◌, ℕ, ◌≤◌, List, Option}
use Rattle.eh_port.specs.Causes.{Rose}
use Rattle.run_events.specs.Runs.{GoesOn, EndsBy}
use Rattle.run_gates.specs.Ends.{is_fault}
use Rattle.thumb_core.specs.declared.ends.End.{End}
use Rattle.thumb_core.specs.declared.ends.End.TheVariants.{ReadFault, WriteFault}
use Rattle.eh_gates.specs.declared.state.Turned.{Turned}
use Rattle.eh_gates.specs.declared.state.Turned.TheVariants.{Went, Ended}
use Rattle.eh_gates.specs.State.{State}
use Rattle.sim_machines.specs.Program.{Program}
use Rattle.sim_machines.specs.Machine.{machine_event, may_fail}

-- one event was done: the run goes on, or the event ended it, or a fault of the outside stopped it where one may come
abbrev pub TurnedOnce : Program → State → List ℕ → Turned → State → Option (List ℕ) → Option (List ℕ) → Option (List ℕ) → Type 0
TurnedOnce p old input Went new left before now = GoesOn (machine_event p old input) new left before now
TurnedOnce p old input (Ended end) new left before now = EndsBy is_fault (may_fail p old) (machine_event p old input) end old new input left before now

-- A count of faults after a call that may end by such a fault: it rose if the fault came. It never fell, and in all other cases it stayed.
pub record IsCounted (failed : Type 0) (before now : ℕ) : Type 0 where
  pub rose : failed → Rose before now
  pub later : before ≤ now
  pub kept : (failed → ⊥) → now ≡ before

-- the fault counts of a source and of a sink, after a call whose end is described by `IsEnd`
pub record CountsFaults (IsEnd : End → Type 0) (read read' wrote wrote' : ℕ) : Type 0 where
  pub input : IsCounted (IsEnd ReadFault) read read'
  pub out : IsCounted (IsEnd WriteFault) wrote wrote'
