-- The event of a throw, and what a throw without a barrier leaves (docs/rules/machine.md, "A throw"; docs/rules/machine.md, "The trace").
use Rattle.std.specs.Prelude.{◌≡◌, ◌≢◌, ◌⊎◌, ℕ, ◌+◌, ◌-◌, ◌%◌, ◌^◌, ◌<◌, ◌≤◌, min, true, is_some, [], ◌∷◌, ◌++◌, length, slice_index, Some, Ok}
use Rattle.eh_bus.specs.Memory.{load}
use Rattle.eh_cxa.specs.Words.{word, object_slot, block_slot}
use Rattle.eh_cxa.specs.Throw.{throw_fault, object_and_type}
use Rattle.eh_cxa.specs.Catch.{rethrow_of}
use Rattle.eh_types.specs.Graph.{row_of}
use Rattle.eh_phase.specs.declared.verdict.Thrown.{Thrown}
use Rattle.eh_phase.specs.declared.phase1.Barrier.{Barrier}
use Rattle.eh_phase.specs.declared.phase1.Found.TheVariants as found
use Rattle.eh_trace.specs.Trace.{Trace, total_of, push_event}
use Rattle.eh_trace.specs.declared.event.Event.{Event}
use Rattle.eh_trace.specs.declared.event.EventKind.{EventKind}
use Rattle.eh_trace.specs.declared.event.EventKind.TheVariants.{Throw, Rethrow}
use Rattle.thumb_core.specs.declared.ends.End.{End}
use Rattle.eh_gates.specs.declared.state.Turned.TheVariants.{Ended}
use Rattle.eh_gates.specs.State.{State, Tables, Outcome, reg}
use Rattle.eh_gates.specs.Throwing.{phase1_result}
use Rattle.eh_gates.specs.Gates.{gate_of}

-- ---- the event

-- the event of a throw of an object of this size, taken before the throw: it has the object's first bytes, as loads give them, 16 at
-- most
pub record IsOf (s : State) (what : EventKind) (thrown : Thrown) (size : ℕ) (e : Event) : Type 0 where
  pub kind : e.kind ≡ what
  pub object : e.a ≡ thrown.object
  pub ty : e.b ≡ thrown.ty
  pub count : e.count ≡ min size 16
  pub bytes : (k byte : ℕ) → k < e.count → load 1 s.memory ((thrown.object + k) % 2 ^ 32) ≡ Ok byte → slice_index e.bytes k ≡ byte

-- the first event after some is e; a pad that is entered adds one more
abbrev pub Begins : Trace → Event → Trace → Type 0
Begins old e new = (new ≡ push_event old e) ⊎ ((later : Event) × (new ≡ push_event (push_event old e) later))

pub record AddsEvent (s : State) (what : EventKind) (thrown : Thrown) (size : ℕ) (o : Outcome) : Type 0 where
  pub event : Event
  pub is : IsOf s what thrown size event
  pub begins : Begins s.events event o.1.events

-- what gate 18 throws, and what gate 21 does. The size of an exception is word 1 of its slot
abbrev pub gate_thrown : State → Thrown
gate_thrown s = record { object = reg s 0; ty = reg s 1 }

abbrev pub rethrown_object : State → ℕ → Thrown
rethrown_object s block = record { object = (object_and_type (word s.memory) (block_slot block)).0; ty = (object_and_type (word s.memory) (block_slot block)).1 }

-- a throw that isn't refused, of a type that the graph holds
pub record MayThrow (g : Tables) (s : State) (slot : ℕ) : Type 0 where
  pub is_slot : object_slot (reg s 0) ≡ Some slot
  pub fresh : throw_fault (word s.memory) (object_slot (reg s 0)) ≡ Ok tt
  pub held : is_some (row_of g.types (reg s 1)) ≡ true

-- .. and a rethrow
pub record MayRethrow (g : Tables) (s : State) (block slot : ℕ) : Type 0 where
  pub is_slot : object_slot (rethrown_object s block).object ≡ Some slot
  pub caught : (rethrow_of (word s.memory) s.globals).answer ≡ Ok block
  pub held : is_some (row_of g.types (rethrown_object s block).ty) ≡ true

pub record ThrowsAddTheirEvent : Type 0 where
  pub first : (g : Tables) (next : ℕ) (s : State) (slot : ℕ) → MayThrow g s slot → AddsEvent s Throw (gate_thrown s) (word s.memory slot 1) (gate_of g 18 next s)
  pub again :
      (g : Tables) (next : ℕ) (s : State) (block slot : ℕ) → MayRethrow g s block slot
      → AddsEvent s Rethrow (rethrown_object s block) (word s.memory slot 1) (gate_of g 21 next s)

-- ---- a search without a barrier

-- one more event, in the total of its kind and among the stored ones, of which there are at most 10,000; nothing else changes
pub record OneMore (old : Trace) (e : Event) (new : Trace) : Type 0 where
  pub kept : length old.kept < 10000 → new.kept ≡ old.kept ++ e ∷ []
  pub full : 10000 ≤ length old.kept → new.kept ≡ old.kept
  pub counted : total_of e.kind new ≡ min (total_of e.kind old + 1) (2 ^ 64 - 1)
  pub others : (what : EventKind) → what ≢ e.kind → total_of what new ≡ total_of what old

pub record OnlyAdds (s : State) (what : EventKind) (thrown : Thrown) (size : ℕ) (o : Outcome) : Type 0 where
  pub end : End
  pub ended : o.0 ≡ Ended end
  pub event : Event
  pub is : IsOf s what thrown size event
  pub events : OneMore s.events event o.1.events
  pub regs : o.1.regs ≡ s.regs
  pub globals : o.1.globals ≡ s.globals
  pub memory : o.1.memory ≡ s.memory

-- the search finds no barrier
abbrev pub FindsNone : Tables → State → Thrown → Type 0
FindsNone g s thrown = (b : Barrier) → phase1_result g s thrown ≡ found.Barrier b → ⊥

pub record FailedSearchesAddOne : Type 0 where
  pub first :
      (g : Tables) (next : ℕ) (s : State) (slot : ℕ) → MayThrow g s slot → FindsNone g s (gate_thrown s)
      → OnlyAdds s Throw (gate_thrown s) (word s.memory slot 1) (gate_of g 18 next s)
  pub again :
      (g : Tables) (next : ℕ) (s : State) (block slot : ℕ) → MayRethrow g s block slot → FindsNone g s (rethrown_object s block)
      → OnlyAdds s Rethrow (rethrown_object s block) (word s.memory slot 1) (gate_of g 21 next s)
