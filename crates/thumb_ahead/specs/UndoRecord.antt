-- Saves the bytes that an instruction may store to, and restores them (docs/rules/machine.md, "An event").
use Rattle.std.specs.Prelude.{◌≡◌, ℕ, ◌+◌, ◌-◌, ◌*◌, ◌%◌, ◌^◌, ◌<◌, ◌≤◌, min, take, List, length, slice_index, Option, Some, None, Ok}
use Rattle.eh_bus.specs.Memory.{Memory, load, store, store_run}
use Rattle.eh_bus.specs.declared.map.TheConstants.{STACK_END}
use Rattle.thumb_core.specs.Registers.{reg}
use Rattle.thumb_isa.specs.declared.profile.Profile.{Profile}
use Rattle.thumb_core.specs.Step.{step_for}
use Rattle.thumb_core.specs.Stores.{Span}
use Rattle.thumb_core.specs.declared.regs.TheConstants.{SP}
use Rattle.thumb_core.specs.declared.regs.Regs.{Regs}
use Rattle.thumb_core.specs.declared.regs.CoreTrap.{CoreTrap}
use Rattle.thumb_core.specs.declared.regs.Stepped.{Stepped}
use Rattle.thumb_core.specs.declared.regs.Stepped.TheVariants.{Done, Trap}
use Rattle.thumb_ahead.specs.declared.undo_record.UndoRecord.{UndoRecord}
use Rattle.thumb_ahead.specs.declared.undo_record.UndoRecord.TheVariants.{Nothing, Byte, Half, Words}
use Rattle.thumb_ahead.specs.declared.undo_record.TheConstants.{MOST}

-- a memory with the saved bytes stored back
abbrev pub restore : UndoRecord → Memory → Memory
restore Nothing m = m
restore (Byte at value) m = (store 1 m at value).1
restore (Half at value) m = (store 2 m at value).1
restore (Words at words count) m = (store_run m at (take (min count MOST) words)).1

-- wherever the instruction at pc is executed, storing the saved bytes back gives the memory before it
abbrev pub Restores : Profile → UndoRecord → Regs → Memory → Type 0
Restores p undo_record regs m = (after : Regs) (new : Memory) → step_for p regs m ≡ (Done, after, new) → restore undo_record new ≡ m

-- the words that it pushes, unless it traps, are words of the stack from the new sp on
pub record InStack (count : ℕ) (after : Regs) : Type 0 where
  pub aligned : reg after SP % 4 ≡ 0
  pub high : reg after SP + 4 * count ≤ STACK_END

abbrev pub PushesInStack : Profile → ℕ → Regs → Memory → Type 0
PushesInStack p count regs m =
    (what : Stepped) (after : Regs) (new : Memory) → step_for p regs m ≡ (what, after, new) → ((trap : CoreTrap) → what ≡ Trap trap → ⊥) → 0 < count → InStack count after

-- sp less n words, rounded down to a word: no push of n words lowers sp further, if there is room for them
abbrev pub lowest : ℕ → ℕ → ℕ
lowest sp n = sp - 4 * n - (sp - 4 * n) % 4

-- ---- the bytes of a span

abbrev pub span_of_range : Option (ℕ × ℕ) → Option Span
span_of_range None = None
span_of_range (Some (start, size)) = Some (record { start = start; size = size })

-- n words from an address on, as loads give them
pub record HoldsWords (m : Memory) (at n : ℕ) (undo_record : UndoRecord) : Type 0 where
  pub words : List ℕ
  pub is : undo_record ≡ Words at words n
  pub count : length words ≡ MOST
  pub all : (i : ℕ) → i < n → load 4 m (at + 4 * i) ≡ Ok (slice_index words i)

-- the first k of n words are as loads give them, if the n words end below 2 ^ 32
abbrev pub SoFar : Memory → ℕ → ℕ → ℕ → List ℕ → Type 0
SoFar m at n k words = at + 4 * n < 2 ^ 32 → (i : ℕ) → i < k → load 4 m (at + 4 * i) ≡ Ok (slice_index words i)

-- each of n words can be loaded
abbrev pub CanLoad : Memory → ℕ → ℕ → Type 0
CanLoad m at n = (i : ℕ) → i < n → (v : ℕ) × (load 4 m (at + 4 * i) ≡ Ok v)

-- the byte, halfword or words were saved, wherever they can be loaded
pub record Records (m : Memory) (at size : ℕ) (undo_record : UndoRecord) : Type 0 where
  pub byte : (v : ℕ) → size ≡ 1 → load 1 m at ≡ Ok v → undo_record ≡ Byte at v
  pub half : (v : ℕ) → size ≡ 2 → load 2 m at ≡ Ok v → undo_record ≡ Half at v
  pub words : (n : ℕ) → size ≡ 4 * n → n ≤ MOST → at + 4 * n < 2 ^ 32 → CanLoad m at n → HoldsWords m at n undo_record
