-- The bytes that an instruction may store to, computed from the registers alone (the address and width of each store in
-- DDI 0419). Addresses wrap at 2 ^ 32.
use Rattle.std.specs.Prelude.{ℕ, ◌≡◌, ◌+◌, ◌-◌, ◌%◌, ◌^◌, ◌<◌, true, false, ◌==◌, Option, Some, None, if◌then◌else◌}
use Rattle.thumb_isa.specs.declared.instr.Instr.{Instr}
use Rattle.thumb_isa.specs.declared.instr.Instr.TheVariants.{MemReg, MemImm, MemSp, Push, Stm}
use Rattle.eh_bus.specs.Memory.{Memory, load, fetch}
use Rattle.thumb_core.specs.declared.access.TheConstants.{STR_REG, STRH_REG, STRB_REG, STR_IMM, LDR_IMM, STRB_IMM, LDRB_IMM, STRH_IMM}
use Rattle.thumb_core.specs.declared.regs.TheConstants.{SP}
use Rattle.thumb_core.specs.declared.regs.Regs.{Regs}
use Rattle.thumb_core.specs.Registers.{reg}
use Rattle.thumb_core.specs.Data.{forward}
use Rattle.thumb_core.specs.Lists.{bytes_of}
use Rattle.thumb_isa.specs.declared.profile.Profile.{Profile}
use Rattle.thumb_core.specs.Step.{instr_for}

-- `size` bytes from an address on
pub record Span : Type 0 where
  pub start : ℕ
  pub size : ℕ

-- the byte at address x is one of them
abbrev pub Covers : Span → ℕ → Type 0
Covers s x = (i : ℕ) × ((i < s.size) × (x ≡ (s.start + i) % 2 ^ 32))

-- none of the n bytes from address a on is one of them
abbrev pub Misses : Span → ℕ → ℕ → Type 0
Misses s a n = (k : ℕ) → k < n → ¬ Covers s (a + k)

abbrev pub span : ℕ → ℕ → Option Span
span a n = Some (record { start = a; size = n })

-- the stores among loads and stores with a register offset
abbrev pub reg_span : ℕ → ℕ → Option Span
reg_span op a =
    if op == STR_REG then span a 4 else (if op == STRH_REG then span a 2 else (if op == STRB_REG then span a 1 else None))

-- the stores among those with an immediate offset
abbrev pub imm_span : ℕ → ℕ → Option Span
imm_span op a =
    if op == STR_IMM then span a 4 else (if op == LDR_IMM then None else (
    if op == STRB_IMM then span a 1 else (if op == LDRB_IMM then None else (
    if op == STRH_IMM then span a 2 else None))))

-- the bytes that an instruction stores to unless it traps; None if it stores nothing
abbrev pub stores_of : Instr → Regs → Option Span
stores_of (MemReg op t n k) regs = reg_span op ((reg regs n + reg regs k) % 2 ^ 32)
stores_of (MemImm op t n off) regs = imm_span op (forward (reg regs n) off)
stores_of (MemSp true t off) regs = None
stores_of (MemSp false t off) regs = span (forward (reg regs SP) off) 4
stores_of (Push list) regs = span ((reg regs SP + (2 ^ 32 - bytes_of list)) % 2 ^ 32) (bytes_of list)
stores_of (Stm n list) regs = span (reg regs n) (bytes_of list)
stores_of i regs = None

-- the same for an instruction, if there is one
abbrev pub stores_of_some : Option (Instr × ℕ) → Regs → Option Span
stores_of_some None regs = None
stores_of_some (Some (i, size)) regs = stores_of i regs

-- the same of the instruction at pc
abbrev pub stores_for : Profile → Memory → Regs → Option Span
stores_for p m regs = stores_of_some (instr_for p m regs.pc) regs

-- reads of bytes outside of these are unchanged
pub record SameApart (s : Span) (old new : Memory) : Type 0 where
  pub loads : (n a : ℕ) → 0 < n → Misses s a n → load n new a ≡ load n old a
  pub fetches : (a : ℕ) → Misses s a 2 → fetch new a ≡ fetch old a

abbrev pub KeepsApart : Option Span → Memory → Memory → Type 0
KeepsApart None old new = new ≡ old
KeepsApart (Some s) old new = SameApart s old new
