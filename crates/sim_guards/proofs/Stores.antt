-- A PUSH or an STM that would store to a slot, along runs.
use Rattle.std.proofs.Common.{◌≡◌, ℕ, subst, Err}
use Rattle.eh_bus.specs.Memory.{store_run}
use Rattle.eh_bus.specs.declared.fault.BusFault.TheVariants.{SavedSlot}
use Rattle.thumb_core.specs.Lists.{words_of}
use Rattle.eh_gates.specs.State.{reg}
use Rattle.sim_machines.specs.Checked.{program_of}
use Rattle.mem_laws.specs.Runs.{word_address}
use Rattle.sim_event_laws.proofs.Saves.{refused_end}
use Rattle.sim_guards.specs.Words.{bytes_at}
use Rattle.sim_guards.specs.Stores.{RunsTrapStores}
use Rattle.sim_guards.proofs.Words.{guard_words}

pub trap_stores : RunsTrapStores
trap_stores x n input left list size k is fits =
    let s = bytes_at x n input in
    record {
      push = λ start stands from r.
          let refused = guard_words x n input is fits start (words_of list s.regs) k r.small r.inside r.before r.slot in
          (refused_end (program_of x) s left size list (word_address start k) r.checked).push stands
          (subst (λ (a : ℕ). store_run s.memory a (words_of list s.regs) ≡ (Err (SavedSlot (word_address start k)), s.memory)) from refused);
      stm = λ base stands r.
          let start = reg s base in
          (refused_end (program_of x) s left size list (word_address start k) r.checked).stm base stands
          (guard_words x n input is fits start (words_of list s.regs) k r.small r.inside r.before r.slot);
    }
