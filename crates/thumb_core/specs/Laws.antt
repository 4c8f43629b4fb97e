-- What holds of every step, for every instruction.
use Rattle.std.specs.Prelude.{◌≡◌, ◌≢◌, ℕ, ◌+◌, ◌-◌, ◌%◌, ◌^◌, ◌<◌, ◌⊎◌, true, List, length, slice_index, Option, Some, Ok}
use Rattle.std.specs.Int.{bit_at}
use Rattle.thumb_isa.specs.declared.instr.Instr.{Instr}
use Rattle.thumb_isa.specs.declared.instr.Instr.TheVariants.{Bx, Pop, Svc}
use Rattle.eh_bus.specs.Lists.{Has}
use Rattle.eh_bus.specs.Memory.{Memory, load, host_load, is_closed}
use Rattle.eh_bus.specs.Map.{SameMap}
use Rattle.thumb_core.specs.declared.regs.TheConstants.{SP, LR, PC}
use Rattle.thumb_core.specs.declared.regs.Regs.{Regs}
use Rattle.thumb_core.specs.declared.regs.Stepped.{Stepped}
use Rattle.thumb_core.specs.declared.regs.Stepped.TheVariants.{Done, Call, Return, Gate, Trap}
use Rattle.thumb_core.specs.Registers.{reg, operand, write_register, word_in, with_pc, with_reg, with_next, with_all}
use Rattle.thumb_core.specs.Lists.{bytes_of, load_list}
use Rattle.thumb_core.specs.Outcome.{Outcome}
use Rattle.thumb_core.specs.Stores.{Span, KeepsApart}

-- a list of n registers: each is a word, and sp is a multiple of 4
pub record AreWords (n : ℕ) (r : List ℕ) : Type 0 where
  pub count : length r ≡ n
  pub small : (k : ℕ) → slice_index r k < 2 ^ 32
  pub aligned : slice_index r SP % 4 ≡ 0

-- and pc is an even word
pub record AreSound (r : List ℕ) (pc : ℕ) : Type 0 where
  pub words : AreWords 15 r
  pub small : pc < 2 ^ 32
  pub is_even : pc % 2 ≡ 0

-- a statement about traps only
abbrev pub OnTrap : Stepped → Type 0 → Type 0
OnTrap (Trap trap) P = P
OnTrap Done P = Unit {0}
OnTrap (Call target ret) P = Unit {0}
OnTrap (Return to) P = Unit {0}
OnTrap (Gate number) P = Unit {0}

-- Where pc is afterwards. After a call it is the even target, and lr has the odd return address. After a return it is
-- the odd target with bit 0 cleared. Else it is even. For a trap see `OnTrap`.
abbrev pub PcStands : Stepped → Regs → Type 0
PcStands Done regs = regs.pc % 2 ≡ 0
PcStands (Call target ret) regs = (regs.pc ≡ target) × (target % 2 ≡ 0) × (slice_index regs.r LR ≡ ret) × (ret % 2 ≡ 1)
PcStands (Return to) regs = (regs.pc + 1 ≡ to) × (to % 2 ≡ 1)
PcStands (Gate number) regs = regs.pc % 2 ≡ 0
PcStands (Trap trap) regs = Unit {0}

-- What no instruction changes in a memory: the addresses and rights of segments, the bytes of those that aren't
-- writable, which words are guarded and their values, the closed words of the pool, and the running stack.
pub record KeepsMap (old new : Memory) : Type 0 where
  pub map : SameMap old.segments new.segments
  pub guards : new.guards ≡ old.guards
  pub home : new.home ≡ old.home
  pub guarded : (g : ℕ) → Has old.guards g → load 4 new g ≡ load 4 old g
  pub closed : (a : ℕ) → a % 4 ≡ 0 → is_closed a ≡ true → host_load new a ≡ host_load old a

-- these properties of an outcome, from registers and a memory
pub record Follows (regs : Regs) (m : Memory) (o : Outcome) : Type 0 where
  pub trap : OnTrap o.0 ((o.1 ≡ regs) × (o.2 ≡ m))
  pub stands : length regs.r ≡ 15 → PcStands o.0 o.1
  pub sound : AreSound regs.r regs.pc → AreSound o.1.r o.1.pc
  pub memory : KeepsMap m o.2

-- ---- what every result except `Done` leaves

-- A POP into pc: the words of its list were loaded, sp is after them, and pc is the last of them. Other registers and
-- the flags are unchanged.
pub record PopsIntoPc (mask to : ℕ) (regs : Regs) (m : Memory) (after : Regs) : Type 0 where
  pub takes_pc : bit_at mask PC ≡ 1
  pub words : List ℕ
  pub loaded : load_list mask (reg regs SP) regs m ≡ Ok words
  pub leaves : after ≡ with_pc (with_all regs (write_register words SP (reg regs SP + bytes_of mask))) to
  pub word : ℕ
  pub last : load 4 m ((reg regs SP + (bytes_of mask - 4)) % 2 ^ 32) ≡ Ok word
  pub target : to ≡ word % 2 ^ 32
  pub sp : slice_index after.r SP ≡ word_in SP (reg regs SP + bytes_of mask)
  pub others : (k : ℕ) → k ≢ SP → bit_at mask k ≡ 0 → slice_index after.r k ≡ slice_index regs.r k

-- a return: BX changes only pc, to the register's value; POP is as above
abbrev pub ReturnsTo : Option (Instr × ℕ) → ℕ → Regs → Memory → Regs → Type 0
ReturnsTo at to regs m after =
    ((k size : ℕ) × (at ≡ Some (Bx k, size)) × (to ≡ operand regs k % 2 ^ 32) × (after ≡ with_pc regs to))
    ⊎ ((mask size : ℕ) × (at ≡ Some (Pop mask, size)) × PopsIntoPc mask to regs m after)

-- The registers afterwards, from those before and the instruction at pc: a call changes lr and pc, a return is as
-- above, an SVC advances pc, and a trap changes nothing.
abbrev pub Leaves : Option (Instr × ℕ) → Stepped → Regs → Memory → Regs → Type 0
Leaves at Done regs m after = Unit {0}
Leaves at (Call target ret) regs m after = after ≡ with_pc (with_reg regs LR ret) target
Leaves at (Return to) regs m after = ReturnsTo at to regs m after
Leaves at (Gate number) regs m after = (size : ℕ) × (at ≡ Some (Svc number, size)) × (after ≡ with_next size regs)
Leaves at (Trap trap) regs m after = after ≡ regs

-- every result except `Done` leaves the memory unchanged
abbrev pub LeavesMemory : Stepped → Memory → Memory → Type 0
LeavesMemory Done old new = Unit {0}
LeavesMemory (Call target ret) old new = new ≡ old
LeavesMemory (Return to) old new = new ≡ old
LeavesMemory (Gate number) old new = new ≡ old
LeavesMemory (Trap trap) old new = new ≡ old

-- these properties of an outcome, from the instruction at pc, the bytes that it may store to, registers and a memory
pub record Acts (at : Option (Instr × ℕ)) (stores : Option Span) (regs : Regs) (m : Memory) (o : Outcome) : Type 0 where
  pub apart : KeepsApart stores m o.2
  pub leaves : Leaves at o.0 regs m o.1
  pub memory : LeavesMemory o.0 m o.2
