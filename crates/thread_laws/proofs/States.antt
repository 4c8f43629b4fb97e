-- Each thread's state stands for its recorded one, and the slots of all are guarded for each.
use Rattle.std.proofs.Common.{◌≡◌, ℕ, List, sym, subst, Err}
use Rattle.eh_bus.specs.Lists.{Has}
use Rattle.eh_bus.specs.Memory.{Memory, store, store_run}
use Rattle.eh_bus.specs.declared.fault.BusFault.TheVariants.{SavedSlot}
use Rattle.eh_bus.proofs.PartLaws.{guarded_refused}
use Rattle.mem_laws.specs.Runs.{word_address, CanStore}
use Rattle.mem_laws.proofs.Guarded.{runs_refused}
use Rattle.sim_machines.specs.Activations.{memory_of}
use Rattle.thread_laws.specs.RecordedThreads.{state_for}
use Rattle.thread_laws.specs.Laws.{EachStands, SlotsAreGuarded, SlotsStopRuns}
use Rattle.thread_laws.proofs.GuardedSlots.{guards_for, in_all, of_all}
use Rattle.thread_laws.proofs.Switched.{entered_is, memory_is}

pub each_stands : EachStands
each_stands x w v k t r e = record { same = entered_is x w v r k t e; keeps = r.keeps k t e }

pub slots_guarded : SlotsAreGuarded
slots_guarded x w v k t other width a value g r e wide aligned has low high =
    let m = memory_of (state_for k t v) in
    let there : Has m.guards g = subst (λ (gs : List ℕ). Has gs g) (sym (guards_for v.threads k t e)) (in_all _ g (of_all v.threads other g has)) in
    subst (λ (n : Memory). store width n a value ≡ (Err (SavedSlot g), n)) (sym (memory_is x w v r k t e))
    (guarded_refused width m a value g (r.keeps k t e).corresponds.map wide aligned there low high)

pub slots_stop_runs : SlotsStopRuns
slots_stop_runs x w v thread t other a words k r e small inside before has =
    let m = memory_of (state_for thread t v) in
    let there : Has m.guards (word_address a k) = subst (λ (gs : List ℕ). Has gs (word_address a k)) (sym (guards_for v.threads thread t e)) (in_all _ (word_address a k) (of_all v.threads other (word_address a k) has)) in
    subst (λ (n : Memory). CanStore n a words k → store_run n a words ≡ (Err (SavedSlot (word_address a k)), n)) (sym (memory_is x w v r thread t e))
    (λ can. runs_refused m a words k (r.keeps thread t e).corresponds.map small inside can there) before
