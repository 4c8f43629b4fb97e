-- Registers and flags: how an instruction reads and writes them.
use Rattle.std.specs.Prelude.{ℕ, ◌+◌, ◌-◌, ◌%◌, ◌^◌, ◌==◌, nat_le, List, [], ◌∷◌, ◌++◌, take, slice_index, slice_set, if◌then◌else◌}
use Rattle.thumb_core.specs.declared.regs.TheConstants.{SP, PC}
use Rattle.thumb_core.specs.declared.regs.Regs.{Regs}
use Rattle.thumb_core.specs.declared.arith.Sum.{Sum}

-- ---- writes: each takes the remainder by 2 ^ 32, here and nowhere else

-- x with bit 0 clear
abbrev pub even : ℕ → ℕ
even x = x - x % 2

-- the word that register d keeps of x; a write to sp clears bits 1 and 0
abbrev pub word_in : ℕ → ℕ → ℕ
word_in d x = if d == SP then x % 2 ^ 32 - x % 2 ^ 32 % 4 else x % 2 ^ 32

-- x written to register d of a list of registers
abbrev pub write_register : List ℕ → ℕ → ℕ → List ℕ
write_register r d x = slice_set r d (word_in d x)

-- x written to one of the registers r0 to r14
abbrev pub with_reg : Regs → ℕ → ℕ → Regs
with_reg regs d x = record regs { r = write_register regs.r d x }

-- x written to pc, whose bit 0 is always clear
abbrev pub with_pc : Regs → ℕ → Regs
with_pc regs x = record regs { pc = even (x % 2 ^ 32) }

-- advances pc to the next instruction, after one of `size` bytes
abbrev pub with_next : ℕ → Regs → Regs
with_next size regs = with_pc regs (regs.pc + size)

-- ---- flags

-- N and Z of a word
abbrev pub with_nz : Regs → ℕ → Regs
with_nz regs x = record regs { n = nat_le (2 ^ 31) x; z = x == 0 }

-- all four flags of a sum
abbrev pub with_flags : Regs → Sum → Regs
with_flags regs s = record regs { n = nat_le (2 ^ 31) s.value; z = s.value == 0; c = s.carry; v = s.overflow }

-- ---- reads

-- one of the registers r0 to r14
abbrev pub reg : Regs → ℕ → ℕ
reg regs k = slice_index regs.r k

-- pc as an operand: the instruction's address plus 4
abbrev pub pc_operand : Regs → ℕ
pc_operand regs = (regs.pc + 4) % 2 ^ 32

-- a register as an operand, pc among them
abbrev pub operand : Regs → ℕ → ℕ
operand regs k = if k == PC then pc_operand regs else reg regs k

-- pc as an operand, rounded down to a multiple of 4
abbrev pub base : Regs → ℕ
base regs = pc_operand regs - pc_operand regs % 4

-- r0 to r14 and pc, in this order
abbrev pub all_of : Regs → List ℕ
all_of regs = regs.r ++ (regs.pc ∷ [])

-- the first fifteen of a list as r0 to r14
abbrev pub with_all : Regs → List ℕ → Regs
with_all regs r = record regs { r = take 15 r }
