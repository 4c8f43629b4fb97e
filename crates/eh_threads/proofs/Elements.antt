-- One element, from what the parts of a call have done.
use Rattle.std.proofs.Common.{◌≡◌, ℕ, true, List, [], length, Option, Some, None, IfSome, inl, inr, refl, sym, ap, subst, ◌∙◌}
use Rattle.std.specs.Io.KnownBytes.{Appends}
use Rattle.std.proofs.KnownBytes.{Appends-nil}
use Rattle.run_events.specs.Runs.{Event, Goes, Ends, Fails}
use Rattle.run_gates.specs.Ends.{is_fault}
use Rattle.eh_bus.specs.Memory.{Memory}
use Rattle.thumb_core.specs.declared.ends.End.{End}
use Rattle.thumb_core.specs.declared.ends.End.TheVariants.{Exit, Terminate, Trap, Budget, ReadFault, WriteFault}
use Rattle.eh_gates.specs.declared.state.Core.{Core}
use Rattle.eh_gates.specs.declared.state.Turned.{Turned}
use Rattle.eh_gates.specs.declared.state.Turned.TheVariants.{Went, Ended}
use Rattle.eh_gates.specs.State.{State, state_of}
use Rattle.frame_check.specs.Accepts.{Accepted}
use Rattle.eh_machine.specs.Ready.{CachedImage}
use Rattle.eh_machine.specs.Turns.{TurnedOnce}
use Rattle.sim_machines.specs.Program.{Program}
use Rattle.sim_machines.specs.Machine.{machine_event, may_fail}
use Rattle.thread_memory.specs.declared.owners.Holding.{Holding}
use Rattle.eh_threads.specs.declared.thread.Thread.{Thread}
use Rattle.eh_threads.specs.Threads.{running, put_thread}
use Rattle.eh_threads.specs.Starting.{Outcome}
use Rattle.eh_threads.specs.Ending.{after_end, turn_outcome}
use Rattle.eh_threads.specs.Tags.{tags_up_to}
use Rattle.eh_threads.specs.Elements.{Joint, joint_of, cache_for_image, owners_at_switch, memory_at_switch, switch_to, state_in, core_in, with_event, by_outcome, after_event, element_of, element}
use Rattle.eh_threads.specs.Done.{ElementDone}

-- ---- what was decoded is of the image

pub is_of : (image : Accepted) (turns : CachedImage) → turns ≡ cache_for_image image turns → turns.image ≡ image
is_of image turns e = ap (λ (d : CachedImage). d.image) e

pub still_of : (image : Accepted) (old new : CachedImage) → old ≡ cache_for_image image old → new.image ≡ old.image → new ≡ cache_for_image image new
still_of image old new e same = ap (λ (i : Accepted). cache_for_image i new) (same ∙ is_of image old e)

-- ---- an element is what the event of its thread makes it

pub element_by : (p : Program) (named : Option ℕ) (w : Joint) (thread : ℕ) (core : Core) (bytes : List ℕ) (e : Event State End)
    → running w.threads named ≡ Some (thread, core) → machine_event p (state_in core (switch_to thread w)) bytes ≡ e
    → element p named w bytes ≡ after_event p thread (switch_to thread w) e bytes
unfolding element
element_by p named w thread core bytes e runs is =
    ap (λ (o : Option (ℕ × Core)). element_of p w bytes o) runs ∙ ap (λ (v : Event State End). after_event p thread (switch_to thread w) v bytes) is

pub element_passed : (p : Program) (named : Option ℕ) (w : Joint) (bytes : List ℕ) → running w.threads named ≡ None → element p named w bytes ≡ Goes w [] bytes
unfolding element
element_passed p named w bytes none = ap (λ (o : Option (ℕ × Core)). element_of p w bytes o) none

pub passed_over : (p : Program) (named : Option ℕ) (w : Joint) (left out : Option (List ℕ)) → None ≡ running w.threads named
    → IfSome left (λ bytes. ElementDone p named w bytes Went w left out out)
passed_over p named w None out none = tt
passed_over p named w (Some bytes) out none = record { text = []; rest = bytes; is = element_passed p named w bytes (sym none); leaves = refl; wrote = Appends-nil out }

-- ---- after an event

ended : (p : Program) (named : Option ℕ) (w : Joint) (thread : ℕ) (core : Core) (bytes : List ℕ) (end : End) (b : State) (outcome : Outcome) (left before now : Option (List ℕ))
    → running w.threads named ≡ Some (thread, core) → machine_event p (state_in core (switch_to thread w)) bytes ≡ Ends end b
    → after_end p thread (core_in b) end w.threads ≡ outcome → left ≡ Some bytes → Appends before now []
    → ElementDone p named w bytes outcome.0 (with_event thread b outcome.1 (switch_to thread w)) left before now
ended p named w thread core bytes end b (Went, threads) left before now runs is after l wrote = record {
  text = [];
  rest = bytes;
  is = element_by p named w thread core bytes (Ends end b) runs is ∙ ap (λ (o : Outcome). by_outcome thread b (switch_to thread w) o bytes) after;
  leaves = l;
  wrote = wrote;
}
ended p named w thread core bytes end b (Ended why, threads) left before now runs is after l wrote = record {
  how = inl (element_by p named w thread core bytes (Ends end b) runs is ∙ ap (λ (o : Outcome). by_outcome thread b (switch_to thread w) o bytes) after);
  leaves = l;
  wrote = wrote;
}

faulted : (p : Program) (named : Option ℕ) (w : Joint) (thread : ℕ) (core : Core) (bytes : List ℕ) (end : End) (b : State) (left before now : Option (List ℕ))
    → running w.threads named ≡ Some (thread, core) → is_fault end ≡ true
    → Fails (may_fail p (state_in core (switch_to thread w))) end (state_in core (switch_to thread w)) b → left ≡ Some bytes → Appends before now []
    → ElementDone p named w bytes (Ended end) (with_event thread b (put_thread w.threads thread (core_in b) None) (switch_to thread w)) left before now
faulted p named w thread core bytes end b left before now runs fault f l wrote = record {
  how = inr (record {
    thread = thread;
    core = core;
    runs = runs;
    fault = fault;
    may = Fails.may f;
    same = ap (λ (s : State). with_event thread s (put_thread w.threads thread (core_in s) None) (switch_to thread w)) (Fails.same f);
  });
  leaves = l;
  wrote = wrote;
}

after_turn : (p : Program) (named : Option ℕ) (w : Joint) (thread : ℕ) (core : Core) (b : State) (did : Turned) (left left' before now : Option (List ℕ))
    → running w.threads named ≡ Some (thread, core)
    → IfSome left (λ bytes. TurnedOnce p (state_in core (switch_to thread w)) bytes did b left' before now)
    → IfSome left (λ bytes. ElementDone p named w bytes (turn_outcome p thread (core_in b) did w.threads).0
    (with_event thread b (turn_outcome p thread (core_in b) did w.threads).1 (switch_to thread w)) left' before now)
after_turn p named w thread core b did None left' before now runs t = tt
after_turn p named w thread core b Went (Some bytes) left' before now runs t = record {
  text = t.text;
  rest = t.rest;
  is = element_by p named w thread core bytes (Goes b t.text t.rest) runs t.is;
  leaves = t.leaves;
  wrote = t.wrote;
}
after_turn p named w thread core b (Ended (Exit number)) (Some bytes) left' before now runs t =
    ended p named w thread core bytes (Exit number) b (after_end p thread (core_in b) (Exit number) w.threads) left' before now runs t.is refl t.leaves t.wrote
after_turn p named w thread core b (Ended (Terminate cause)) (Some bytes) left' before now runs t =
    ended p named w thread core bytes (Terminate cause) b (after_end p thread (core_in b) (Terminate cause) w.threads) left' before now runs t.is refl t.leaves t.wrote
after_turn p named w thread core b (Ended (Trap kind value pc)) (Some bytes) left' before now runs t =
    ended p named w thread core bytes (Trap kind value pc) b (after_end p thread (core_in b) (Trap kind value pc) w.threads) left' before now runs t.is refl t.leaves t.wrote
after_turn p named w thread core b (Ended Budget) (Some bytes) left' before now runs t =
    ended p named w thread core bytes Budget b (after_end p thread (core_in b) Budget w.threads) left' before now runs t.is refl t.leaves t.wrote
after_turn p named w thread core b (Ended ReadFault) (Some bytes) left' before now runs t =
    faulted p named w thread core bytes ReadFault b left' before now runs refl t.fails t.leaves t.wrote
after_turn p named w thread core b (Ended WriteFault) (Some bytes) left' before now runs t =
    faulted p named w thread core bytes WriteFault b left' before now runs refl t.fails t.leaves t.wrote

-- ---- as the calls are made

pub element_done : (p : Program) (named : Option ℕ) (w : Joint) (thread : ℕ) (core : Core) (m : Memory) (owners : List Holding) (b : State) (did turned : Turned)
    (threads : List (Option Thread)) (tags : List ℕ) (left left' before now : Option (List ℕ))
    → Some (thread, core) ≡ running w.threads named → owners ≡ owners_at_switch thread w.entered w.memory w.owners → m ≡ memory_at_switch thread w.entered w.memory w.owners
    → IfSome left (λ bytes. TurnedOnce p (state_of core m w.events) bytes did b left' before now)
    → ◌≡◌ {A = Outcome} (turned, threads) (turn_outcome p thread (core_in b) did w.threads) → tags ≡ tags_up_to thread (length b.events.kept) w.tags
    → IfSome left (λ bytes. ElementDone p named w bytes turned (joint_of threads thread owners b.memory b.events tags) left' before now)
element_done p named w thread core m owners b did turned threads tags left left' before now runs eo em t s et =
    let told : IfSome left (λ bytes. TurnedOnce p (state_in core (switch_to thread w)) bytes did b left' before now) =
    subst (λ (n : Memory). IfSome left (λ bytes. TurnedOnce p (state_of core n w.events) bytes did b left' before now)) em t in
    let Done : Outcome → Type 0 = λ o. IfSome left (λ bytes. ElementDone p named w bytes o.0 (with_event thread b o.1 (switch_to thread w)) left' before now) in
    let done : Done (turned, threads) = subst Done (sym s) (after_turn p named w thread core b did left left' before now (sym runs) told) in
    let same : joint_of threads thread owners b.memory b.events tags ≡ with_event thread b threads (switch_to thread w) =
    ap (λ (os : List Holding). joint_of threads thread os b.memory b.events tags) eo
    ∙ ap (λ (ts : List ℕ). joint_of threads thread (owners_at_switch thread w.entered w.memory w.owners) b.memory b.events ts) et in
    subst (λ (j : Joint). IfSome left (λ bytes. ElementDone p named w bytes turned j left' before now)) (sym same) done
