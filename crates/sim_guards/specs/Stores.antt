-- PUSH and STM along runs of accepted images (docs/rules/machine.md, "An event"; docs/inside/simulation.md, "What is proved").
use Rattle.std.specs.Prelude.{◌≡◌, ℕ, ◌+◌, ◌-◌, ◌*◌, ◌%◌, ◌^◌, ◌<◌, true, List, length, Some}
use Rattle.run_events.specs.Runs.{Ends}
use Rattle.frame_check.specs.Accepts.{Accepted}
use Rattle.thumb_isa.specs.declared.instr.Instr.TheVariants.{Push, Stm}
use Rattle.thumb_core.specs.Step.{instr_for}
use Rattle.thumb_core.specs.Lists.{words_of}
use Rattle.thumb_core.specs.Words.{registers_of_list}
use Rattle.thumb_core.specs.declared.ends.TrapKind.TheVariants as kind
use Rattle.thumb_core.specs.declared.ends.End.TheVariants as the_end
use Rattle.eh_gates.specs.State.{reg}
use Rattle.sim_machines.specs.Checked.{program_of}
use Rattle.sim_machines.specs.Machine.{machine_event}
use Rattle.sim_machines.specs.Program.{profile_in}
use Rattle.sim_relation.specs.Stands.{IsProgram}
use Rattle.sim_runs.specs.Turned.{AreBytes}
use Rattle.mem_laws.specs.Runs.{word_address, CanStore}
use Rattle.sim_guards.specs.Words.{bytes_at, IsSlot}

-- the registers of a list are stored from an address up, and the first word that can't be stored is a slot of a live activation
pub record ReachesSlot (x : Accepted) (n : ℕ) (input : List ℕ) (list start k : ℕ) : Type 0 where
  pub checked : ((program_of x).look (bytes_at x n input).regs.pc).is_instr ≡ true
  pub small : start < 2 ^ 32
  pub inside : k < length (words_of list (bytes_at x n input).regs)
  pub before : CanStore (bytes_at x n input).memory start (words_of list (bytes_at x n input).regs) k
  pub slot : IsSlot x n input (word_address start k)

-- then the event is the trap SavedSlot with that slot's address, whatever the rest of the input is, and leaves the state as it was
pub record EndsThere (x : Accepted) (n : ℕ) (input left : List ℕ) (list size k : ℕ) : Type 0 where
  pub push :
      (start : ℕ) → instr_for (profile_in (program_of x)) (bytes_at x n input).memory (bytes_at x n input).regs.pc ≡ Some (Push list, size)
      → start ≡ (reg (bytes_at x n input) 13 + (2 ^ 32 - 4 * length (registers_of_list list))) % 2 ^ 32 → ReachesSlot x n input list start k
      → machine_event (program_of x) (bytes_at x n input) left
      ≡ Ends (the_end.Trap kind.SavedSlot (word_address start k) (bytes_at x n input).regs.pc) (bytes_at x n input)
  pub stm :
      (base : ℕ) → instr_for (profile_in (program_of x)) (bytes_at x n input).memory (bytes_at x n input).regs.pc ≡ Some (Stm base list, size)
      → ReachesSlot x n input list (reg (bytes_at x n input) base) k
      → machine_event (program_of x) (bytes_at x n input) left
      ≡ Ends (the_end.Trap kind.SavedSlot (word_address (reg (bytes_at x n input) base) k) (bytes_at x n input).regs.pc) (bytes_at x n input)

abbrev pub RunsTrapStores : Type 0
RunsTrapStores = (x : Accepted) (n : ℕ) (input left : List ℕ) (list size k : ℕ) → IsProgram x → AreBytes input → EndsThere x n input left list size k
