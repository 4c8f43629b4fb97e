-- One instruction: the effect of each, and a step from the memory's halfwords to an outcome.
use Rattle.std.specs.Prelude.{ℕ, ◌+◌, ◌%◌, ◌^◌, nat_le, Option, Some, None, Result, Ok, Err, if◌then◌else◌}
use Rattle.thumb_isa.specs.declared.instr.Instr.{Instr}
use Rattle.thumb_isa.specs.declared.instr.Instr.TheVariants.{LdrLit, MemReg, MemImm, MemSp, Push, Pop, Stm, Ldm}
use Rattle.thumb_isa.specs.declared.instr.Decoded.{Decoded}
use Rattle.thumb_isa.specs.declared.instr.Decoded.TheVariants.{Is, Undefined, Unpredictable, NotInProfile}
use Rattle.thumb_isa.specs.declared.profile.Profile.{Profile}
use Rattle.thumb_isa.specs.declared.profile.Profile.TheVariants.{One}
use Rattle.thumb_isa.specs.Rows.{decode_result_for}
use Rattle.eh_bus.specs.Memory.{Memory, fetch}
use Rattle.eh_bus.specs.declared.fault.BusFault.{BusFault}
use Rattle.thumb_core.specs.declared.regs.Regs.{Regs}
use Rattle.thumb_core.specs.declared.regs.CoreTrap.{CoreTrap}
use Rattle.thumb_core.specs.declared.regs.CoreTrap.TheVariants as trap
use Rattle.thumb_core.specs.declared.regs.Stepped.TheVariants.{Trap}
use Rattle.thumb_core.specs.Outcome.{Outcome, fault_outcome, with_memory}
use Rattle.thumb_core.specs.Access.{ldr_lit, mem_reg, mem_imm, mem_sp}
use Rattle.thumb_core.specs.Branch.{register_effect}
use Rattle.thumb_core.specs.Lists.{push, pop, stm, ldm}

-- the effect of an instruction of `size` bytes: of loads and stores, or else of those that leave the memory unchanged
abbrev pub effect : Instr → ℕ → Regs → Memory → Outcome
effect (LdrLit t off) size regs m = ldr_lit t off size regs m
effect (MemReg op t n k) size regs m = mem_reg op t n k size regs m
effect (MemImm op t n off) size regs m = mem_imm op t n off size regs m
effect (MemSp is_load t off) size regs m = mem_sp is_load t off size regs m
effect (Push list) size regs m = push list size regs m
effect (Pop list) size regs m = pop list size regs m
effect (Stm n list) size regs m = stm n list size regs m
effect (Ldm n list) size regs m = ldm n list size regs m
effect i size regs m = with_memory (register_effect i size regs) m

-- an instruction has its effect; halfwords that are none give a trap with the first of them, and change nothing
abbrev pub outcome_of : Decoded → ℕ → Regs → Memory → Outcome
outcome_of (Is i size) first regs m = effect i size regs m
outcome_of Undefined first regs m = (Trap (trap.Undefined first), regs, m)
outcome_of Unpredictable first regs m = (Trap (trap.Unpredictable first), regs, m)
outcome_of NotInProfile first regs m = (Trap (trap.NotInProfile first), regs, m)

-- with the second halfword of a 32-bit encoding, decoded by a profile
abbrev pub with_second : Profile → Result ℕ BusFault → ℕ → Regs → Memory → Outcome
with_second p (Ok second) first regs m = outcome_of (decode_result_for p first second) first regs m
with_second p (Err fault) first regs m = fault_outcome fault regs m

-- with the first halfword: the second is fetched, if there is one, before anything is decoded
abbrev pub with_first : Profile → Result ℕ BusFault → Regs → Memory → Outcome
with_first p (Ok first) regs m =
    if nat_le 0xe800 first then with_second p (fetch m ((regs.pc + 2) % 2 ^ 32)) first regs m
    else outcome_of (decode_result_for p first 0) first regs m
with_first p (Err fault) regs m = fault_outcome fault regs m

-- the instruction at pc
abbrev pub step_for : Profile → Regs → Memory → Outcome
step_for p regs m = with_first p (fetch m regs.pc) regs m

-- .. in the first profile
abbrev pub step_of : Regs → Memory → Outcome
step_of regs m = step_for One regs m

-- ---- the instruction that stands at an address, with its size: none where a halfword can't be fetched or is none

abbrev pub instr_of : Decoded → Option (Instr × ℕ)
instr_of (Is i size) = Some (i, size)
instr_of Undefined = None
instr_of Unpredictable = None
instr_of NotInProfile = None

abbrev pub instr_of_second : Profile → Result ℕ BusFault → ℕ → Option (Instr × ℕ)
instr_of_second p (Ok second) first = instr_of (decode_result_for p first second)
instr_of_second p (Err fault) first = None

abbrev pub instr_of_first : Profile → Result ℕ BusFault → Memory → ℕ → Option (Instr × ℕ)
instr_of_first p (Ok first) m a =
    if nat_le 0xe800 first then instr_of_second p (fetch m ((a + 2) % 2 ^ 32)) first else instr_of (decode_result_for p first 0)
instr_of_first p (Err fault) m a = None

abbrev pub instr_for : Profile → Memory → ℕ → Option (Instr × ℕ)
instr_for p m a = instr_of_first p (fetch m a) m a

-- .. in the first profile
abbrev pub instr_at : Memory → ℕ → Option (Instr × ℕ)
instr_at m a = instr_for One m a

-- ---- what a fetch answers: the instruction at pc with its size, or the trap of a step there

abbrev pub fetched_instr : Result (Instr × ℕ) CoreTrap → Option (Instr × ℕ)
fetched_instr (Ok (i, size)) = Some (i, size)
fetched_instr (Err trap) = None

-- the instruction has its effect; a trap changes nothing
abbrev pub outcome_from : Result (Instr × ℕ) CoreTrap → Regs → Memory → Outcome
outcome_from (Ok (i, size)) regs m = effect i size regs m
outcome_from (Err trap) regs m = (Trap trap, regs, m)
