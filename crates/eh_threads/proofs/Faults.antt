-- Faults of the outside end a run as they came, and no other end is one.
use Rattle.std.proofs.Common.{◌≡◌, ℕ, ◌-◌, ◌%◌, ◌==◌, Bool, true, false, List, Option, Some, None, IfSome, if◌then◌else◌, refl, sym, ap, ◌∙◌}
use Rattle.std.specs.Option.{option_or}
use Rattle.run_gates.specs.Ends.{is_fault}
use Rattle.run_gates.specs.Gates.{r0}
use Rattle.thumb_core.specs.declared.ends.TrapKind.TheVariants as kind
use Rattle.thumb_core.specs.declared.ends.End.{End}
use Rattle.thumb_core.specs.declared.ends.End.TheVariants.{Exit, Terminate, Trap, Budget, ReadFault, WriteFault}
use Rattle.eh_gates.specs.declared.state.Core.{Core}
use Rattle.eh_gates.specs.declared.state.Turned.{Turned}
use Rattle.eh_gates.specs.declared.state.Turned.TheVariants.{Went, Ended}
use Rattle.eh_machine.specs.Turns.{IsCounted, CountsFaults}
use Rattle.sim_machines.specs.Program.{Program}
use Rattle.eh_threads.specs.declared.thread.Thread.{Thread}
use Rattle.eh_threads.specs.Threads.{exit_number_of_all, put_thread}
use Rattle.eh_threads.specs.Starting.{Outcome, next_pc, unless_refused, start_refusal, start_gate}
use Rattle.eh_threads.specs.Ending.{unless_over, is_start_gate, stop_thread, after_end, turn_outcome}

abbrev fault_in : Turned → Bool
fault_in Went = false
fault_in (Ended end) = is_fault end

over_fine : (o : Option ℕ) (threads : List (Option Thread)) → fault_in (unless_over o threads).0 ≡ false
over_fine None threads = refl
over_fine (Some number) threads = refl

fine_choice : (b : Bool) (x y : Outcome) → fault_in x.0 ≡ false → fault_in y.0 ≡ false → fault_in (if b then x else y).0 ≡ false
fine_choice true x y h k = h
fine_choice false x y h k = k

refusal_fine : (one two three : Bool) (to target pc : ℕ)
    → IfSome (option_or (if one then Some (Trap kind.FellOff to pc) else None)
    (if two then Some (Trap kind.EvenTarget target pc) else (if three then None else Some (Trap kind.BadCallTarget (target - 1) pc)))) (λ e. is_fault e ≡ false)
refusal_fine true two three to target pc = refl
refusal_fine false true three to target pc = refl
refusal_fine false false true to target pc = tt
refusal_fine false false false to target pc = refl

gate_fine : (o : Option End) (thread : ℕ) (core : Core) (threads : List (Option Thread)) → IfSome o (λ e. is_fault e ≡ false) → fault_in (unless_refused o thread core threads).0 ≡ false
gate_fine None thread core threads h = refl
gate_fine (Some end) thread core threads h = h

start_fine : (p : Program) (thread : ℕ) (core : Core) (threads : List (Option Thread)) → fault_in (start_gate p thread core threads).0 ≡ false
start_fine p thread core threads =
    gate_fine (start_refusal p core.regs) thread core threads
    (refusal_fine (p.look (next_pc core.regs)).is_function (r0 core.regs % 2 == 0) (p.look (r0 core.regs - 1)).is_function (next_pc core.regs) (r0 core.regs) core.regs.pc)

end_fine : (p : Program) (thread : ℕ) (core : Core) (end : End) (threads : List (Option Thread)) → is_fault end ≡ false → fault_in (after_end p thread core end threads).0 ≡ false
end_fine p thread core (Exit number) threads h = over_fine (exit_number_of_all (put_thread threads thread core (Some number))) (put_thread threads thread core (Some number))
end_fine p thread core (Trap kind value pc) threads h =
    fine_choice (is_start_gate kind value) (start_gate p thread core threads) (stop_thread thread core (Trap kind value pc) threads) (start_fine p thread core threads) refl
end_fine p thread core (Terminate cause) threads h = refl
end_fine p thread core Budget threads h = refl
end_fine p thread core ReadFault threads h = h
end_fine p thread core WriteFault threads h = h

fault_kept : (p : Program) (thread : ℕ) (core : Core) (end : End) (threads : List (Option Thread)) → is_fault end ≡ true → (after_end p thread core end threads).0 ≡ Ended end
fault_kept p thread core (Exit number) threads h = absurd (cc)
fault_kept p thread core (Trap kind value pc) threads h = absurd (cc)
fault_kept p thread core (Terminate cause) threads h = absurd (cc)
fault_kept p thread core Budget threads h = absurd (cc)
fault_kept p thread core ReadFault threads h = refl
fault_kept p thread core WriteFault threads h = refl

-- ---- the same fault before and after

no_fault : (turned : Turned) (end : End) → fault_in turned ≡ false → is_fault end ≡ true → turned ≡ Ended end → ⊥
no_fault turned end fine fault e = let same : fault_in turned ≡ is_fault end = ap fault_in e in let f : false ≡ true = sym fine ∙ same ∙ fault in cc

there : (p : Program) (thread : ℕ) (core : Core) (did : Turned) (threads : List (Option Thread)) (b : Bool) (end : End) → is_fault end ≡ true → fault_in did ≡ b
    → (turn_outcome p thread core did threads).0 ≡ Ended end → did ≡ Ended end
there p thread core Went threads b end fault is e = e
there p thread core (Ended why) threads true end fault is e = sym (fault_kept p thread core why threads is) ∙ e
there p thread core (Ended why) threads false end fault is e = absurd (no_fault (after_end p thread core why threads).0 end (end_fine p thread core why threads is) fault e)

back : (p : Program) (thread : ℕ) (core : Core) (did : Turned) (threads : List (Option Thread)) (end : End) → is_fault end ≡ true → did ≡ Ended end
    → (turn_outcome p thread core did threads).0 ≡ Ended end
back p thread core did threads end fault e = ap (λ (d : Turned). (turn_outcome p thread core d threads).0) e ∙ fault_kept p thread core end threads fault

counted : (A B : Type 0) (before now : ℕ) → (B → A) → (A → B) → IsCounted A before now → IsCounted B before now
counted A B before now to from c = record { rose = λ b. c.rose (to b); later = c.later; kept = λ never. c.kept (λ a. never (from a)) }

pub settled_counts : (p : Program) (thread : ℕ) (core : Core) (did turned : Turned) (threads threads' : List (Option Thread)) (read read' wrote wrote' : ℕ)
    → ◌≡◌ {A = Outcome} (turned, threads') (turn_outcome p thread core did threads)
    → CountsFaults (λ end. did ≡ Ended end) read read' wrote wrote' → CountsFaults (λ end. turned ≡ Ended end) read read' wrote wrote'
settled_counts p thread core did turned threads threads' read read' wrote wrote' s c =
    let is : turned ≡ (turn_outcome p thread core did threads).0 = ap (λ (o : Outcome). o.0) s in
    record {
      input = counted (did ≡ Ended ReadFault) (turned ≡ Ended ReadFault) read read'
          (λ e. there p thread core did threads (fault_in did) ReadFault refl refl (sym is ∙ e)) (λ e. is ∙ back p thread core did threads ReadFault refl e) c.input;
      out = counted (did ≡ Ended WriteFault) (turned ≡ Ended WriteFault) wrote wrote'
          (λ e. there p thread core did threads (fault_in did) WriteFault refl refl (sym is ∙ e)) (λ e. is ∙ back p thread core did threads WriteFault refl e) c.out;
    }
