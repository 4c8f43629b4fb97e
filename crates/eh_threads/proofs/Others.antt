-- What an element leaves of the other threads.
use Rattle.std.proofs.Common.{◌≡◌, ℕ, zero, suc, ◌+◌, ◌-◌, Bool, true, false, List, [], ◌∷◌, get_or, Option, Some, None, is_some, if◌then◌else◌, refl, sym, ap, ◌∙◌, arith}
use Rattle.std.specs.Prelude.{slice_index}
use Rattle.std.proofs.lemmas.List.{get_or-set_other}
use Rattle.run_events.specs.Runs.{Event, Goes, Ends}
use Rattle.run_gates.specs.Gates.{r0}
use Rattle.thumb_core.specs.declared.ends.End.{End}
use Rattle.thumb_core.specs.declared.ends.End.TheVariants.{Exit, Terminate, Trap, Budget, ReadFault, WriteFault}
use Rattle.eh_gates.specs.declared.state.Core.{Core}
use Rattle.eh_gates.specs.declared.state.Turned.{Turned}
use Rattle.eh_gates.specs.declared.state.Turned.TheVariants.{Went, Ended}
use Rattle.eh_gates.specs.State.{State}
use Rattle.sim_machines.specs.Program.{Program}
use Rattle.sim_machines.specs.Machine.{machine_event}
use Rattle.eh_threads.specs.declared.thread.Thread.{Thread}
use Rattle.eh_threads.specs.Threads.{core_of, with_thread_number, running, none_runs, exit_number, exit_number_of_all, put_thread}
use Rattle.eh_threads.specs.Starting.{Outcome, first_unstarted, new_core, start_thread, with_gate_answer, unless_refused, start_refusal, start_gate}
use Rattle.eh_threads.specs.Ending.{unless_over, is_start_gate, stop_thread, after_end}
use Rattle.eh_threads.specs.Elements.{Joint, switch_to, state_in, core_in, with_event, event_of, after_event, element}
use Rattle.eh_threads.specs.Laws.{threads_of}
use Rattle.eh_threads.proofs.Elements.{element_by, element_passed}

-- ---- the first thread that was never started is none that was

not_here : (t : Thread) → ◌≡◌ {A = Option Thread} None (Some t) → ⊥
not_here t e = let f : false ≡ true = ap (λ (o : Option Thread). is_some o) e in cc

unstarted_is_none : (k : ℕ) (threads : List (Option Thread)) (number : ℕ) → first_unstarted k threads ≡ Some number → (j : ℕ) × ((number ≡ k + j) × (get_or threads j None ≡ None))
unstarted_is_none k [] number e = absurd (none_some number e)
  where
    none_some : (n : ℕ) → ◌≡◌ {A = Option ℕ} None (Some n) → ⊥
    none_some n e = let f : false ≡ true = ap (λ (o : Option ℕ). is_some o) e in cc
unstarted_is_none k (None ∷ more) number e = (0, (same k number e, refl))
  where
    same : (k number : ℕ) → ◌≡◌ {A = Option ℕ} (Some k) (Some number) → number ≡ k + 0
    same k number e = let f : k ≡ number = cc in omega arith
unstarted_is_none k (Some t ∷ more) number e =
    let further = unstarted_is_none (suc k) more number e in
    let at : number ≡ suc k + further.0 = further.1.0 in
    (suc further.0, (omega arith, further.1.1))

not_started : (threads : List (Option Thread)) (number other : ℕ) (t : Thread) → first_unstarted 0 threads ≡ Some number → get_or threads other None ≡ Some t → other ≡ number → ⊥
not_started threads number other t e stands same =
    let found = unstarted_is_none 0 threads number e in
    let here : other ≡ found.0 = omega (arith, found.1.0) in
    not_here t (sym found.1.1 ∙ ap (λ (j : ℕ). get_or threads j None) (sym here) ∙ stands)

-- ---- what becomes of the threads

module _ (thread other : ℕ) (t : Thread) (apart : other ≡ thread → ⊥) where
  put_other : (threads : List (Option Thread)) (core : Core) (ended : Option ℕ) → get_or threads other None ≡ Some t → get_or (put_thread threads thread core ended) other None ≡ Some t
  put_other threads core ended stands = get_or-set_other threads thread other (Some (record { core = core; ended = ended })) None apart ∙ stands

  begun_other : (target argument : ℕ) (threads : List (Option Thread)) (o : Option ℕ) → first_unstarted 0 threads ≡ o → get_or threads other None ≡ Some t
      → get_or (start_thread target argument threads o).1 other None ≡ Some t
  begun_other target argument threads None e stands = stands
  begun_other target argument threads (Some number) e stands = get_or-set_other threads number other (Some (record { core = new_core number target argument; ended = None })) None (not_started threads number other t e stands) ∙ stands

  refused_other : (o : Option End) (core : Core) (threads : List (Option Thread)) → get_or threads other None ≡ Some t → get_or (unless_refused o thread core threads).1 other None ≡ Some t
  refused_other (Some end) core threads stands = put_other threads core None stands
  refused_other None core threads stands =
      let new = start_thread (r0 core.regs - 1) (slice_index core.regs.r 1) threads (first_unstarted 0 threads) in
      put_other new.1 (with_gate_answer core new.0) None (begun_other (r0 core.regs - 1) (slice_index core.regs.r 1) threads (first_unstarted 0 threads) refl stands)

  over_other : (o : Option ℕ) (threads : List (Option Thread)) → get_or threads other None ≡ Some t → get_or (unless_over o threads).1 other None ≡ Some t
  over_other None threads stands = stands
  over_other (Some number) threads stands = stands

  choice_other : (b : Bool) (x y : Outcome) → get_or x.1 other None ≡ Some t → get_or y.1 other None ≡ Some t → get_or (if b then x else y).1 other None ≡ Some t
  choice_other true x y h k = h
  choice_other false x y h k = k

  end_other : (p : Program) (core : Core) (end : End) (threads : List (Option Thread)) → get_or threads other None ≡ Some t → get_or (after_end p thread core end threads).1 other None ≡ Some t
  end_other p core (Exit number) threads stands =
      over_other (exit_number_of_all (put_thread threads thread core (Some number))) (put_thread threads thread core (Some number)) (put_other threads core (Some number) stands)
  end_other p core (Trap kind value pc) threads stands =
      choice_other (is_start_gate kind value) (start_gate p thread core threads) (stop_thread thread core (Trap kind value pc) threads)
      (refused_other (start_refusal p core.regs) core threads stands) (put_other threads core None stands)
  end_other p core (Terminate cause) threads stands = put_other threads core None stands
  end_other p core Budget threads stands = put_other threads core None stands
  end_other p core ReadFault threads stands = put_other threads core None stands
  end_other p core WriteFault threads stands = put_other threads core None stands

  turned_other : (turned : Turned) (w : Joint) (input : List ℕ) → get_or w.threads other None ≡ Some t → get_or (threads_of (event_of turned w input)) other None ≡ Some t
  turned_other Went w input stands = stands
  turned_other (Ended end) w input stands = stands

  event_other : (p : Program) (w : Joint) (e : Event State End) (input : List ℕ) → get_or w.threads other None ≡ Some t → get_or (threads_of (after_event p thread w e input)) other None ≡ Some t
  event_other p w (Goes b text left) input stands = put_other w.threads (core_in b) None stands
  event_other p w (Ends end b) input stands =
      let outcome = after_end p thread (core_in b) end w.threads in
      turned_other outcome.0 (with_event thread b outcome.1 w) input (end_other p (core_in b) end w.threads stands)

  element_other : (p : Program) (w : Joint) (input : List ℕ) (found : Option Core) → core_of (get_or w.threads thread None) ≡ found → get_or w.threads other None ≡ Some t
      → get_or (threads_of (element p (Some thread) w input)) other None ≡ Some t
  element_other p w input None e stands =
      let none : running w.threads (Some thread) ≡ None = ap (with_thread_number thread) e in
      rw (element_passed p (Some thread) w input none) stands
  element_other p w input (Some core) e stands =
      let runs : running w.threads (Some thread) ≡ Some (thread, core) = ap (with_thread_number thread) e in
      rw (element_by p (Some thread) w thread core input _ runs refl)
      (event_other p (switch_to thread w) (machine_event p (state_in core (switch_to thread w)) input) input stands)

pub others_stand : (p : Program) (thread other : ℕ) (w : Joint) (input : List ℕ) (t : Thread) → (other ≡ thread → ⊥) → get_or w.threads other None ≡ Some t
    → get_or (threads_of (element p (Some thread) w input)) other None ≡ Some t
others_stand p thread other w input t apart stands = element_other thread other t apart p w input (core_of (get_or w.threads thread None)) refl stands

-- ---- where all are over

never_both : false ≡ true → ⊥
never_both e = cc

no_more : (o : Option Core) (b : Bool) → (if is_some o then false else b) ≡ true → (o ≡ None) × (b ≡ true)
no_more None b e = (refl, e)
no_more (Some core) b e = absurd (never_both e)

pub none_runs_at : (threads : List (Option Thread)) (k : ℕ) → none_runs threads ≡ true → core_of (get_or threads k None) ≡ None
none_runs_at [] k e = refl
none_runs_at (t ∷ more) zero e = (no_more (core_of t) (none_runs more) e).0
none_runs_at (t ∷ more) (suc k) e = none_runs_at more k (no_more (core_of t) (none_runs more) e).1

pub over_is : (threads : List (Option Thread)) (number : ℕ) → exit_number_of_all threads ≡ Some number → (none_runs threads ≡ true) × (exit_number (get_or threads 0 None) ≡ Some number)
over_is threads number e = chosen (none_runs threads) refl e
  where
    chosen : (b : Bool) → none_runs threads ≡ b → (if b then exit_number (get_or threads 0 None) else None) ≡ Some number
        → (none_runs threads ≡ true) × (exit_number (get_or threads 0 None) ≡ Some number)
    chosen true is e = (is, e)
    chosen false is e = absurd (let f : false ≡ true = ap (λ (o : Option ℕ). is_some o) e in cc)
