-- The outcome of an instruction: whether it goes on or is refused, and how.
use Rattle.std.specs.Prelude.{ℕ}
use Rattle.eh_bus.specs.Memory.{Memory}
use Rattle.eh_bus.specs.declared.fault.BusFault.{BusFault}
use Rattle.thumb_core.specs.declared.regs.Regs.{Regs}
use Rattle.thumb_core.specs.declared.regs.CoreTrap.TheVariants as trap
use Rattle.thumb_core.specs.declared.regs.Stepped.{Stepped}
use Rattle.thumb_core.specs.declared.regs.Stepped.TheVariants.{Done, Trap}
use Rattle.thumb_core.specs.Registers.{with_next}

-- the result of a step, and the registers and memory after it
abbrev pub Outcome : Type 0
Outcome = Stepped × Regs × Memory

-- a plain end, which leaves these registers
abbrev pub done_with : Regs → Stepped × Regs
done_with after = (Done, after)

-- a fault of the memory: nothing is changed
abbrev pub memory_trap : BusFault → Regs → Stepped × Regs
memory_trap fault regs = (Trap (trap.Memory fault), regs)

abbrev pub fault_outcome : BusFault → Regs → Memory → Outcome
fault_outcome fault regs m = (Trap (trap.Memory fault), regs, m)

-- an instruction that leaves the memory
abbrev pub with_memory : Stepped × Regs → Memory → Outcome
with_memory (what, after) m = (what, after, m)

-- a plain instruction of `size` bytes that leaves these registers
abbrev pub plain_outcome : ℕ → Regs → Memory → Outcome
plain_outcome size regs m = (Done, with_next size regs, m)
