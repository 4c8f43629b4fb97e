-- PUSH, POP, STM and LDM.
use Rattle.std.specs.Prelude.{ℕ, ◌+◌, ◌-◌, ◌*◌, ◌%◌, ◌^◌, ◌==◌, Bool, true, false, List, length, slice_index, Result, Ok, Err, if◌then◌else◌}
use Rattle.std.specs.Int.{bit_at}
use Rattle.eh_bus.specs.Memory.{Memory, store_run}
use Rattle.eh_bus.specs.declared.fault.BusFault.{BusFault}
use Rattle.thumb_core.specs.declared.regs.TheConstants.{SP, PC}
use Rattle.thumb_core.specs.declared.regs.Regs.{Regs}
use Rattle.thumb_core.specs.declared.regs.Stepped.{Stepped}
use Rattle.thumb_core.specs.declared.regs.Stepped.TheVariants.{Done}
use Rattle.thumb_core.specs.Registers.{with_next, reg, all_of, with_all, with_reg, write_register}
use Rattle.thumb_core.specs.Words.{registers_of_list, words_in, load_words, loads_from}
use Rattle.thumb_core.specs.Outcome.{Outcome, plain_outcome, fault_outcome, with_memory}
use Rattle.thumb_core.specs.Access.{store_end}
use Rattle.thumb_core.specs.Branch.{if_odd, return_to}

-- the words of the registers of a mask, the lowest first
abbrev pub words_of : ℕ → Regs → List ℕ
words_of mask regs = words_in regs.r (registers_of_list mask)

-- the size in bytes of a mask's registers
abbrev pub bytes_of : ℕ → ℕ
bytes_of mask = 4 * length (registers_of_list mask)

-- PUSH: the words are stored below the old sp, the lowest register at the lowest address, and sp is the address of the
-- first
abbrev pub push : ℕ → ℕ → Regs → Memory → Outcome
push mask size regs m =
    let a = (reg regs SP + (2 ^ 32 - bytes_of mask)) % 2 ^ 32 in
    store_end (store_run m a (words_of mask regs)) size regs (with_reg regs SP a)

-- STM: the words are stored from register n's address on, and n becomes the address after them. If n is in the list,
-- its old value is stored
abbrev pub stm : ℕ → ℕ → ℕ → Regs → Memory → Outcome
stm n mask size regs m =
    store_end (store_run m (reg regs n) (words_of mask regs)) size regs (with_reg regs n (reg regs n + bytes_of mask))

-- the registers with those of a mask loaded from address a on
abbrev pub load_list : ℕ → ℕ → Regs → Memory → Result (List ℕ) BusFault
load_list mask a regs m = load_words m.segments a (loads_from 0 (registers_of_list mask)) (all_of regs)

-- the registers after an LDM; the base becomes the address after the words, unless it was loaded itself
abbrev pub ldm_end : Result (List ℕ) BusFault → ℕ → ℕ → ℕ → Regs → Memory → Outcome
ldm_end (Ok r) n mask size regs m =
    plain_outcome size (with_all regs (if bit_at mask n == 1 then r else write_register r n (reg regs n + bytes_of mask))) m
ldm_end (Err fault) n mask size regs m = fault_outcome fault regs m

-- LDM
abbrev pub ldm : ℕ → ℕ → ℕ → Regs → Memory → Outcome
ldm n mask size regs m = ldm_end (load_list mask (reg regs n) regs m) n mask size regs m

-- where a POP goes, given the registers that it leaves: to the word that it loaded into pc, if it loaded one
abbrev pub pop_to : Bool → ℕ → ℕ → Regs → Regs → Stepped × Regs
pop_to true target size regs after = if_odd target regs (return_to target after)
pop_to false target size regs after = (Done, with_next size after)

-- the registers after a POP; sp is the address after the words
abbrev pub pop_end : Result (List ℕ) BusFault → ℕ → ℕ → Regs → Memory → Outcome
pop_end (Ok r) mask size regs m =
    with_memory
    (pop_to (bit_at mask PC == 1) (slice_index r PC) size regs (with_all regs (write_register r SP (reg regs SP + bytes_of mask))))
    m
pop_end (Err fault) mask size regs m = fault_outcome fault regs m

-- POP
abbrev pub pop : ℕ → ℕ → Regs → Memory → Outcome
pop mask size regs m = pop_end (load_list mask (reg regs SP) regs m) mask size regs m
