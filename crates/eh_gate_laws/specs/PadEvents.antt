-- The event of a landing pad that is entered (docs/rules/machine.md, "Landing"; docs/rules/machine.md, "The trace").
use Rattle.std.specs.Prelude.{◌≡◌, ℕ, slice_index}
use Rattle.eh_bytecode.specs.declared.frame.Vrs.{Vrs}
use Rattle.eh_phase.specs.declared.phase2.Entered.TheVariants as enters
use Rattle.eh_trace.specs.Trace.{push_event}
use Rattle.eh_trace.specs.declared.event.Event.{Event}
use Rattle.eh_trace.specs.declared.event.EventKind.{EventKind}
use Rattle.eh_trace.specs.declared.event.EventKind.TheVariants.{Cleanup, Catch, Unexpected}
use Rattle.eh_gates.specs.State.{State, Outcome}
use Rattle.eh_gates.specs.Landing.{enter_landing}

-- one event more, of this kind, with the pad and the sp (r13) of the frame that is entered
pub record AddsPad (s : State) (what : EventKind) (vrs : Vrs) (pad : ℕ) (o : Outcome) : Type 0 where
  pub event : Event
  pub added : o.1.events ≡ push_event s.events event
  pub kind : event.kind ≡ what
  pub at : event.a ≡ pad
  pub sp : event.b ≡ slice_index vrs.r 13
  pub count : event.count ≡ 0

-- a cleanup's, a handler's with the object that it is given, and that of a violated specification
pub record HasItsEvent (s : State) (block object : ℕ) (vrs : Vrs) (pad : ℕ) : Type 0 where
  pub cleanup : (next site : ℕ) → AddsPad s Cleanup vrs pad (enter_landing s block object (enters.Cleanup vrs pad next site))
  pub catch : AddsPad s Catch vrs pad (enter_landing s block object (enters.Catch vrs pad))
  pub given : catch.event.c ≡ object
  pub spec : AddsPad s Unexpected vrs pad (enter_landing s block object (enters.Spec vrs pad))

abbrev pub LandingsHaveTheirEvent : Type 0
LandingsHaveTheirEvent = (s : State) (block object : ℕ) (vrs : Vrs) (pad : ℕ) → HasItsEvent s block object vrs pad
