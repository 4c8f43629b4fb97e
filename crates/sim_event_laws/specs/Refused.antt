-- A store of several words that reaches a guarded word ends the run (docs/rules/machine.md, "An event"; docs/rules/memory.md, "Faults").
use Rattle.std.specs.Prelude.{◌≡◌, ℕ, ◌+◌, ◌-◌, ◌*◌, ◌%◌, ◌^◌, true, List, length, Some, Err}
use Rattle.run_events.specs.Runs.{Ends}
use Rattle.eh_bus.specs.Memory.{store_run}
use Rattle.eh_bus.specs.declared.fault.BusFault.TheVariants.{SavedSlot}
use Rattle.thumb_isa.specs.declared.instr.Instr.TheVariants.{Push, Stm}
use Rattle.thumb_core.specs.Step.{instr_for}
use Rattle.thumb_core.specs.Lists.{words_of}
use Rattle.thumb_core.specs.Words.{registers_of_list}
use Rattle.thumb_core.specs.declared.ends.TrapKind.TheVariants as kind
use Rattle.thumb_core.specs.declared.ends.End.TheVariants as the_end
use Rattle.eh_gates.specs.State.{State, reg}
use Rattle.sim_machines.specs.Program.{Program, profile_in}
use Rattle.sim_machines.specs.Machine.{machine_event}

-- the end is SavedSlot with the guarded word, and the state is left as it was
pub record RefusalsEnd (p : Program) (s : State) (input : List ℕ) (size list g : ℕ) : Type 0 where
  -- a PUSH stores its registers below sp
  pub push :
      instr_for (profile_in p) s.memory s.regs.pc ≡ Some (Push list, size)
      → store_run s.memory ((reg s 13 + (2 ^ 32 - 4 * length (registers_of_list list))) % 2 ^ 32) (words_of list s.regs) ≡ (Err (SavedSlot g), s.memory)
      → machine_event p s input ≡ Ends (the_end.Trap kind.SavedSlot g s.regs.pc) s
  -- an STM stores its registers from its base register up
  pub stm :
      (n : ℕ) → instr_for (profile_in p) s.memory s.regs.pc ≡ Some (Stm n list, size) → store_run s.memory (reg s n) (words_of list s.regs) ≡ (Err (SavedSlot g), s.memory)
      → machine_event p s input ≡ Ends (the_end.Trap kind.SavedSlot g s.regs.pc) s

abbrev pub RefusedStoresEnd : Type 0
RefusedStoresEnd = (p : Program) (s : State) (input : List ℕ) (size list g : ℕ) → (p.look s.regs.pc).is_instr ≡ true → RefusalsEnd p s input size list g
