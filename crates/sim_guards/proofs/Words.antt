-- A run over bytes stands where the run with recorded activations does, and there the slots are guarded.
use Rattle.std.proofs.Common.{◌≡◌, inl, sym, subst, Err}
use Rattle.eh_bus.specs.Memory.{store_run}
use Rattle.eh_bus.specs.declared.fault.BusFault.TheVariants.{SavedSlot}
use Rattle.eh_gates.specs.State.{State}
use Rattle.sim_machines.proofs.Saving.{are_guarded}
use Rattle.sim_runs.proofs.WholeRuns.{runs_same}
use Rattle.mem_laws.specs.Runs.{word_address, CanStore}
use Rattle.mem_laws.proofs.Guarded.{runs_refused}
use Rattle.sim_guards.specs.Words.{recorded_state_at, RunsGuardWords}

pub guard_words : RunsGuardWords
guard_words x n input is fits a words k low inside before slot =
    let w = (runs_same x n input is fits).state in
    let t = recorded_state_at x n input in
    let guarded = ((are_guarded t).guards (word_address a k)).1 (inl slot) in
    subst (λ (c : State). CanStore c.memory a words k → store_run c.memory a words ≡ (Err (SavedSlot (word_address a k)), c.memory)) (sym w.same)
    (λ can. runs_refused _ a words k w.keeps.corresponds.map low inside can guarded) before
