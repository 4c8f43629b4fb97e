-- Loads and stores of one register.
use Rattle.std.specs.Prelude.{ℕ, ℤ, ◌+◌, ◌*◌, ◌%◌, ◌^◌, Bool, ◌==◌, Result, Ok, Err, if◌then◌else◌}
use Rattle.eh_bus.specs.Memory.{Memory, load, store}
use Rattle.eh_bus.specs.declared.fault.BusFault.{BusFault}
use Rattle.thumb_core.specs.declared.access.TheConstants.{STR_REG, STRH_REG, STRB_REG, LDRSB_REG, LDR_REG, LDRH_REG, LDRB_REG, STR_IMM, LDR_IMM, STRB_IMM, LDRB_IMM, STRH_IMM}
use Rattle.thumb_core.specs.declared.regs.Regs.{Regs}
use Rattle.thumb_core.specs.declared.regs.Stepped.{Stepped}
use Rattle.thumb_core.specs.declared.regs.TheConstants.{SP}
use Rattle.thumb_core.specs.Arith.{sign_extension}
use Rattle.thumb_core.specs.Registers.{reg, base, with_reg, with_next}
use Rattle.thumb_core.specs.Data.{forward}
use Rattle.thumb_core.specs.Outcome.{Outcome, done_with, memory_trap, with_memory}

-- how a store ends an instruction, given its result, the registers before it, and those that it leaves
abbrev pub store_result : Result (Unit {0}) BusFault → ℕ → Regs → Regs → Stepped × Regs
store_result (Ok u) size regs after = done_with (with_next size after)
store_result (Err fault) size regs after = memory_trap fault regs

abbrev pub store_end : Result (Unit {0}) BusFault × Memory → ℕ → Regs → Regs → Outcome
store_end answer size regs after = with_memory (store_result answer.0 size regs after) answer.1

-- how a load ends an instruction: its number goes to register t
abbrev pub load_result : Result ℕ BusFault → ℕ → ℕ → Regs → Stepped × Regs
load_result (Ok x) t size regs = done_with (with_next size (with_reg regs t x))
load_result (Err fault) t size regs = memory_trap fault regs

-- what n bytes hold as a signed number
abbrev pub sign_extend_result : ℕ → Result ℕ BusFault → Result ℕ BusFault
sign_extend_result n (Ok x) = Ok (sign_extension (8 * n) x)
sign_extend_result n (Err fault) = Err fault

-- stores the lowest n bytes of register t at address a
abbrev pub store_reg : ℕ → ℕ → ℕ → ℕ → Regs → Memory → Outcome
store_reg n t a size regs m = store_end (store n m a (reg regs t % 256 ^ n)) size regs regs

-- the n bytes at address a to register t
abbrev pub load_reg : ℕ → ℕ → ℕ → ℕ → Regs → Memory → Outcome
load_reg n t a size regs m = with_memory (load_result (load n m a) t size regs) m

-- the same as a signed number
abbrev pub load_reg_signed : ℕ → ℕ → ℕ → ℕ → Regs → Memory → Outcome
load_reg_signed n t a size regs m = with_memory (load_result (sign_extend_result n (load n m a)) t size regs) m

-- LDR of a word near the instruction
abbrev pub ldr_lit : ℕ → ℤ → ℕ → Regs → Memory → Outcome
ldr_lit t off size regs m = load_reg 4 t (forward (base regs) off) size regs m

-- STR STRH STRB LDRSB LDR LDRH LDRB LDRSH at an address
abbrev pub reg_access : ℕ → ℕ → ℕ → ℕ → Regs → Memory → Outcome
reg_access op t a size regs m =
    if op == STR_REG then store_reg 4 t a size regs m else (
    if op == STRH_REG then store_reg 2 t a size regs m else (
    if op == STRB_REG then store_reg 1 t a size regs m else (
    if op == LDRSB_REG then load_reg_signed 1 t a size regs m else (
    if op == LDR_REG then load_reg 4 t a size regs m else (
    if op == LDRH_REG then load_reg 2 t a size regs m else (
    if op == LDRB_REG then load_reg 1 t a size regs m else
    load_reg_signed 2 t a size regs m))))))

-- the same at the sum of two registers
abbrev pub mem_reg : ℕ → ℕ → ℕ → ℕ → ℕ → Regs → Memory → Outcome
mem_reg op t n k size regs m = reg_access op t ((reg regs n + reg regs k) % 2 ^ 32) size regs m

-- STR LDR STRB LDRB STRH LDRH at an address
abbrev pub imm_access : ℕ → ℕ → ℕ → ℕ → Regs → Memory → Outcome
imm_access op t a size regs m =
    if op == STR_IMM then store_reg 4 t a size regs m else (
    if op == LDR_IMM then load_reg 4 t a size regs m else (
    if op == STRB_IMM then store_reg 1 t a size regs m else (
    if op == LDRB_IMM then load_reg 1 t a size regs m else (
    if op == STRH_IMM then store_reg 2 t a size regs m else
    load_reg 2 t a size regs m))))

-- the same at a register and an offset
abbrev pub mem_imm : ℕ → ℕ → ℕ → ℤ → ℕ → Regs → Memory → Outcome
mem_imm op t n off size regs m = imm_access op t (forward (reg regs n) off) size regs m

-- STR and LDR of a word at an address
abbrev pub sp_access : Bool → ℕ → ℕ → ℕ → Regs → Memory → Outcome
sp_access is_load t a size regs m = if is_load then load_reg 4 t a size regs m else store_reg 4 t a size regs m

-- the same at sp and an offset
abbrev pub mem_sp : Bool → ℕ → ℤ → ℕ → Regs → Memory → Outcome
mem_sp is_load t off size regs m = sp_access is_load t (forward (reg regs SP) off) size regs m
