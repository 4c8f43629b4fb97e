-- What gates guarantee, in the terms of their users (docs/rules/machine.md, "Laws").
use Rattle.std.specs.Prelude.{◌≡◌, ◌⊎◌, ℕ, Bool, true, false, is_some, IsSome, Ok, Err}
use Rattle.eh_bus.specs.Map.{IsMap, SameMap}
use Rattle.eh_cxa.specs.declared.globals.Globals.{Globals}
use Rattle.eh_cxa.specs.Words.{word, block_slot, object_slot}
use Rattle.eh_cxa.specs.Throw.{throw_fault}
use Rattle.eh_types.specs.Graph.{row_of}
use Rattle.eh_trace.specs.Trace.{total_of, one_event}
use Rattle.eh_trace.specs.declared.event.EventKind.TheVariants as kind
use Rattle.thumb_core.specs.declared.ends.End.{End}
use Rattle.thumb_core.specs.declared.ends.End.TheVariants as the_end
use Rattle.eh_gates.specs.declared.state.Turned.TheVariants.{Ended}
use Rattle.eh_gates.specs.State.{State, Tables, Outcome, reg}
use Rattle.eh_gates.specs.Throwing.{throw_gate, rethrow_gate, barrier_in, phase1_result, gate_thrown, block_thrown, second_flight}
use Rattle.eh_gates.specs.Gates.{gate_of}

abbrev pub is_terminate : End → Bool
is_terminate (the_end.Terminate why) = true
is_terminate (the_end.Exit number) = false
is_terminate (the_end.Trap kind value pc) = false
is_terminate the_end.Budget = false
is_terminate the_end.ReadFault = false
is_terminate the_end.WriteFault = false

-- what an end leaves unchanged: the registers in any case; globals and memory too, unless it terminates
pub record IsLeft (end : End) (s t : State) : Type 0 where
  pub regs : t.regs ≡ s.regs
  pub globals : is_terminate end ≡ false → t.globals ≡ s.globals
  pub memory : is_terminate end ≡ false → t.memory ≡ s.memory

abbrev pub GatesLeave : Type 0
GatesLeave = (g : Tables) (number next : ℕ) (s t : State) (end : End) → gate_of g number next s ≡ (Ended end, t) → IsLeft end s t

-- only a throw was added to the events
pub record OnlyThrown (s t : State) : Type 0 where
  pub throws : total_of kind.Throw t.events ≡ one_event (total_of kind.Throw s.events)
  pub cleanups : total_of kind.Cleanup t.events ≡ total_of kind.Cleanup s.events
  pub catches : total_of kind.Catch t.events ≡ total_of kind.Catch s.events
  pub unexpected : total_of kind.Unexpected t.events ≡ total_of kind.Unexpected s.events
  pub globals : t.globals ≡ s.globals
  pub memory : t.memory ≡ s.memory

-- A throw of an object that may be thrown, with a type that the graph has, finds no barrier. Then the run ends as the search tells,
-- nothing was entered, and the exception isn't flying.
abbrev pub FailedSearchesEnterNothing : Type 0
FailedSearchesEnterNothing =
    (g : Tables) (s t : State) (end why : End) → throw_fault (word s.memory) (object_slot (reg s 0)) ≡ Ok tt → is_some (row_of g.types (reg s 1)) ≡ true
    → barrier_in s.regs.pc (phase1_result g s (gate_thrown s)) ≡ Err why → throw_gate g s ≡ (Ended end, t) → (end ≡ why) × OnlyThrown s t

-- the same of a rethrow of what is on top of the caught stack
pub record OnlyRethrown (s t : State) : Type 0 where
  pub rethrows : total_of kind.Rethrow t.events ≡ one_event (total_of kind.Rethrow s.events)
  pub cleanups : total_of kind.Cleanup t.events ≡ total_of kind.Cleanup s.events
  pub catches : total_of kind.Catch t.events ≡ total_of kind.Catch s.events
  pub unexpected : total_of kind.Unexpected t.events ≡ total_of kind.Unexpected s.events
  pub regs : t.regs ≡ s.regs
  pub globals : t.globals ≡ s.globals
  pub memory : t.memory ≡ s.memory

abbrev pub FailedRethrowsEnterNothing : Type 0
FailedRethrowsEnterNothing =
    (g : Tables) (s t : State) (end why : End) (block : ℕ) → (second_flight s).answer ≡ Ok block
    → is_some (row_of g.types (block_thrown s block).ty) ≡ true → barrier_in s.regs.pc (phase1_result g s (block_thrown s block)) ≡ Err why
    → rethrow_gate g s ≡ (Ended end, t) → (end ≡ why) × OnlyRethrown s t

-- the head of a list: 0, or the control block of a slot
abbrev pub IsHead : ℕ → Type 0
IsHead h = (h ≡ 0) ⊎ IsSome (block_slot h)

pub record AreHeads (g : Globals) : Type 0 where
  pub caught : IsHead g.caught
  pub cleanup : IsHead g.cleanup

-- if the heads of both lists are heads before a gate, they are after it
abbrev pub HeadsStay : Type 0
HeadsStay = (g : Tables) (number next : ℕ) (s : State) → AreHeads s.globals → AreHeads (gate_of g number next s).1.globals

-- in a memory as every bus has it, a gate changes segments only in the bytes of writable ones
abbrev pub GatesKeepTheMap : Type 0
GatesKeepTheMap = (g : Tables) (number next : ℕ) (s : State) → IsMap s.memory → SameMap s.memory.segments (gate_of g number next s).1.memory.segments
