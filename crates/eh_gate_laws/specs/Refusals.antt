-- The ends of the gates of exceptions, each with its value (docs/rules/machine.md, "Gates").
use Rattle.std.specs.Prelude.{◌≡◌, ◌⊎◌, ℕ, ◌<◌, None, Ok, Err}
use Rattle.eh_bus.specs.Memory.{Memory, load}
use Rattle.eh_cxa.specs.Words.{word, block_slot, object_slot}
use Rattle.eh_cxa.specs.Throw.{throw_fault, object_and_type}
use Rattle.eh_cxa.specs.Catch.{rethrow_of}
use Rattle.eh_cxa.specs.declared.globals.CxaFault.{CxaFault}
use Rattle.eh_types.specs.Graph.{row_of}
use Rattle.thumb_core.specs.declared.ends.Cause.{Cause}
use Rattle.thumb_core.specs.declared.ends.Cause.TheVariants as cause
use Rattle.thumb_core.specs.declared.ends.TrapKind.{TrapKind}
use Rattle.thumb_core.specs.declared.ends.TrapKind.TheVariants as kind
use Rattle.thumb_core.specs.declared.ends.End.{End}
use Rattle.thumb_core.specs.declared.ends.End.TheVariants.{Trap, Terminate}
use Rattle.eh_gates.specs.declared.state.Turned.TheVariants.{Ended}
use Rattle.eh_gates.specs.State.{State, Tables, reg}
use Rattle.eh_gates.specs.Gates.{gate_of}

-- a trap at pc with a value
abbrev pub IsTrap : State → TrapKind → ℕ → End → Type 0
IsTrap s kind value end = end ≡ Trap kind value s.regs.pc

abbrev pub Terminates : End → Type 0
Terminates end = (why : Cause) × (end ≡ Terminate why)

-- no word can be loaded at an address
abbrev pub NoWord : Memory → ℕ → Type 0
NoWord m a = (value : ℕ) → load 4 m a ≡ Ok value → ⊥

-- the trap for an unreadable object has the address that can't be loaded
abbrev pub IsUnread : State → End → Type 0
IsUnread s end = (a : ℕ) × IsTrap s kind.ObjectRead a end × NoWord s.memory a

-- the type of what is on top of the caught stack
abbrev pub caught_type : State → ℕ
caught_type s = (object_and_type (word s.memory) (block_slot s.globals.caught)).1

-- by which ends each gate may end, whatever the state
pub record EndAsTold (g : Tables) (next : ℕ) (s t : State) (end : End) : Type 0 where
  pub allocate : gate_of g 16 next s ≡ (Ended end, t) → IsTrap s kind.TooBig (reg s 0) end ⊎ (end ≡ Terminate cause.PoolFull)
  pub free : gate_of g 17 next s ≡ (Ended end, t) → IsTrap s kind.BadObject (reg s 0) end
  pub throw :
      gate_of g 18 next s ≡ (Ended end, t)
      → IsTrap s kind.BadObject (reg s 0) end ⊎ (IsTrap s kind.BadType (reg s 1) end ⊎ (IsUnread s end ⊎ Terminates end))
  pub begin_catch : gate_of g 19 next s ≡ (Ended end, t) → IsTrap s kind.BadUcb (reg s 0) end ⊎ IsTrap s kind.CaughtOrder (reg s 0) end
  pub end_catch : gate_of g 20 next s ≡ (Ended end, t) → IsTrap s kind.NoCaught 0 end
  pub rethrow :
      gate_of g 21 next s ≡ (Ended end, t)
      → IsTrap s kind.CaughtOrder s.globals.caught end ⊎ (IsTrap s kind.BadType (caught_type s) end ⊎ (IsUnread s end ⊎ Terminates end))
  pub unexpected : gate_of g 23 next s ≡ (Ended end, t) → end ≡ Terminate cause.Unexpected
  pub called : gate_of g 24 next s ≡ (Ended end, t) → end ≡ Terminate cause.Called
  pub uncaught : gate_of g 25 next s ≡ (Ended end, t) → ⊥

abbrev pub GatesEndAsTold : Type 0
GatesEndAsTold = (g : Tables) (next : ℕ) (s t : State) (end : End) → EndAsTold g next s t end

-- a gate of no number of these is none
abbrev pub OtherGatesAreNone : Type 0
OtherGatesAreNone = (g : Tables) (number next : ℕ) (s : State) → (number < 16) ⊎ (25 < number) → gate_of g number next s ≡ (Ended (Trap kind.UnknownGate number s.regs.pc), s)

-- ---- which refusal comes first

-- An object that can't be thrown is refused before its type is looked at, and a type that the graph doesn't have before anything is
-- done. The state stays.
pub record ComeInOrder (g : Tables) (next : ℕ) (s : State) : Type 0 where
  pub object :
      (why : CxaFault) → throw_fault (word s.memory) (object_slot (reg s 0)) ≡ Err why
      → gate_of g 18 next s ≡ (Ended (Trap kind.BadObject (reg s 0) s.regs.pc), s)
  pub thrown_type :
      throw_fault (word s.memory) (object_slot (reg s 0)) ≡ Ok tt → row_of g.types (reg s 1) ≡ None
      → gate_of g 18 next s ≡ (Ended (Trap kind.BadType (reg s 1) s.regs.pc), s)
  pub nothing : block_slot s.globals.caught ≡ None → gate_of g 21 next s ≡ (Ended (Terminate cause.NothingCaught), s)
  pub caught_type :
      (block : ℕ) → (rethrow_of (word s.memory) s.globals).answer ≡ Ok block → row_of g.types (caught_type s) ≡ None
      → gate_of g 21 next s ≡ (Ended (Trap kind.BadType (caught_type s) s.regs.pc), s)

abbrev pub RefusalsComeInOrder : Type 0
RefusalsComeInOrder = (g : Tables) (next : ℕ) (s : State) → ComeInOrder g next s
