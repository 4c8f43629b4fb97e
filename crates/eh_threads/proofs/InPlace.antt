-- An event that is done in its thread's own place among the threads.
use Rattle.std.proofs.Common.{◌≡◌, ℕ, zero, suc, ◌-◌, Bool, true, false, List, [], ◌∷◌, get_or, set, Option, Some, None, is_some, if◌then◌else◌, refl, ap, ◌∙◌, sym}
use Rattle.std.specs.Prelude.{slice_index}
use Rattle.run_gates.specs.Gates.{r0}
use Rattle.thumb_core.specs.declared.ends.End.{End}
use Rattle.thumb_core.specs.declared.ends.End.TheVariants.{Exit, Terminate, Trap, Budget, ReadFault, WriteFault}
use Rattle.eh_gates.specs.declared.state.Core.{Core}
use Rattle.eh_gates.specs.declared.state.Turned.TheVariants.{Went, Ended}
use Rattle.sim_machines.specs.Program.{Program}
use Rattle.eh_threads.specs.declared.starting.TheConstants.{NO_THREAD}
use Rattle.eh_threads.specs.declared.thread.Thread.{Thread}
use Rattle.eh_threads.specs.Threads.{core_of, running, exit_number_of_all, put_thread}
use Rattle.eh_threads.specs.Starting.{Outcome, first_unstarted, new_core, start_thread, with_gate_answer, go_on_with_thread, unless_refused, start_refusal, start_gate}
use Rattle.eh_threads.specs.Ending.{unless_over, is_start_gate, stop_thread, after_end}

-- ---- the thread that is named

not_none : false ≡ true → ⊥
not_none e = cc

not_ended : (core : Core) (ended : Option ℕ) → is_some (core_of (Some (record { core = core; ended = ended }))) ≡ true → ended ≡ None
not_ended core None runs = refl
not_ended core (Some number) runs = absurd (not_none runs)

-- one that runs stands in its place, and hasn't ended
pub stands_there : (threads : List (Option Thread)) (thread : ℕ) (t : Thread) → get_or threads thread None ≡ Some t
    → is_some (core_of (get_or threads thread None)) ≡ true → t.ended ≡ None
stands_there threads thread t there runs = not_ended t.core t.ended (rw there at runs)

pub none_there : (threads : List (Option Thread)) (thread : ℕ) → get_or threads thread None ≡ None → is_some (core_of (get_or threads thread None)) ≡ true → ⊥
none_there threads thread there runs = not_none (rw there at runs)

pub runs_there : (threads : List (Option Thread)) (thread : ℕ) (named : Option ℕ) (t : Thread) → named ≡ Some thread → get_or threads thread None ≡ Some t
    → t.ended ≡ None → Some (thread, t.core) ≡ running threads named
runs_there threads thread named t is there none = rw (is, there, none) refl

-- ---- what stood in its place before plays no part

set_twice : {A : Type 0} (l : List A) (i : ℕ) (a b : A) → set (set l i a) i b ≡ set l i b
set_twice [] i a b = refl
set_twice (x ∷ l) zero a b = refl
set_twice (x ∷ l) (suc i) a b = ap (λ m. x ∷ m) (set_twice l i a b)

set_around : {A : Type 0} (l : List A) (i j : ℕ) (a b c : A) → set (set (set l i a) j b) i c ≡ set (set l j b) i c
set_around [] i j a b c = refl
set_around (x ∷ l) zero zero a b c = refl
set_around (x ∷ l) zero (suc j) a b c = refl
set_around (x ∷ l) (suc i) zero a b c = ap (λ m. b ∷ m) (set_twice l i a c)
set_around (x ∷ l) (suc i) (suc j) a b c = ap (λ m. x ∷ m) (set_around l i j a b c)

-- a thread that is there is passed by
unstarted_past : (k : ℕ) (threads : List (Option Thread)) (i : ℕ) (t : Thread) → is_some (get_or threads i None) ≡ true
    → first_unstarted k (set threads i (Some t)) ≡ first_unstarted k threads
unstarted_past k [] i t there = refl
unstarted_past k (x ∷ more) zero t there = rw there refl
unstarted_past k (None ∷ more) (suc i) t there = refl
unstarted_past k (Some u ∷ more) (suc i) t there = unstarted_past (suc k) more i t there

abbrev going : List (Option Thread) → Outcome
going threads = (Went, threads)

abbrev ending : End → List (Option Thread) → Outcome
ending end threads = (Ended end, threads)

module _ (p : Program) (thread : ℕ) (now core : Core) (threads : List (Option Thread)) (there : is_some (get_or threads thread None) ≡ true) where
  abbrev stood : List (Option Thread)
  stood = put_thread threads thread now None

  put_in_place : (ended : Option ℕ) → put_thread stood thread core ended ≡ put_thread threads thread core ended
  put_in_place ended = set_twice threads thread (Some (record { core = now; ended = None })) (Some (record { core = core; ended = ended }))

  begun_in_place : (target argument : ℕ) (o : Option ℕ) → go_on_with_thread thread core (start_thread target argument stood o) ≡ go_on_with_thread thread core (start_thread target argument threads o)
  begun_in_place target argument None =
      ap going (set_twice threads thread (Some (record { core = now; ended = None })) (Some (record { core = with_gate_answer core NO_THREAD; ended = None })))
  begun_in_place target argument (Some number) =
      ap going (set_around threads thread number (Some (record { core = now; ended = None })) (Some (record { core = new_core number target argument; ended = None }))
      (Some (record { core = with_gate_answer core number; ended = None })))

  gate_in_place : (o : Option End) → unless_refused o thread core stood ≡ unless_refused o thread core threads
  gate_in_place (Some end) = ap (ending end) (put_in_place None)
  gate_in_place None =
      ap (λ (o : Option ℕ). go_on_with_thread thread core (start_thread (r0 core.regs - 1) (slice_index core.regs.r 1) stood o))
      (unstarted_past 0 threads thread (record { core = now; ended = None }) there)
      ∙ begun_in_place (r0 core.regs - 1) (slice_index core.regs.r 1) (first_unstarted 0 threads)

  trap_in_place : (b : Bool) (end : End)
      → (if b then start_gate p thread core stood else stop_thread thread core end stood) ≡ (if b then start_gate p thread core threads else stop_thread thread core end threads)
  trap_in_place true end = gate_in_place (start_refusal p core.regs)
  trap_in_place false end = ap (ending end) (put_in_place None)

  end_in_place : (end : End) → after_end p thread core end stood ≡ after_end p thread core end threads
  end_in_place (Exit number) = ap (λ (ts : List (Option Thread)). unless_over (exit_number_of_all ts) ts) (put_in_place (Some number))
  end_in_place (Trap kind value pc) = trap_in_place (is_start_gate kind value) (Trap kind value pc)
  end_in_place (Terminate cause) = ap (ending (Terminate cause)) (put_in_place None)
  end_in_place Budget = ap (ending Budget) (put_in_place None)
  end_in_place ReadFault = ap (ending ReadFault) (put_in_place None)
  end_in_place WriteFault = ap (ending WriteFault) (put_in_place None)

-- ---- as the calls are made

-- the thread as its event left it
pub left_there : (threads : List (Option Thread)) (thread : ℕ) (t : Thread) (core : Core) → t.ended ≡ None
    → set threads thread (Some (record { core = core; ended = t.ended })) ≡ put_thread threads thread core None
left_there threads thread t core none = ap (λ (o : Option ℕ). set threads thread (Some (record { core = core; ended = o }))) none

pub went_there : (threads before : List (Option Thread)) (thread : ℕ) (core : Core) → threads ≡ put_thread before thread core None
    → ◌≡◌ {A = Outcome} (Went, threads) (Went, put_thread before thread core None)
went_there threads before thread core is = ap going is

pub ends_there : (p : Program) (threads before : List (Option Thread)) (thread : ℕ) (core : Core) (end : End) (outcome : Outcome) → is_some (get_or before thread None) ≡ true
    → threads ≡ put_thread before thread core None → outcome ≡ after_end p thread core end threads → outcome ≡ after_end p thread core end before
ends_there p threads before thread core end outcome there is e =
    e ∙ ap (λ (ts : List (Option Thread)). after_end p thread core end ts) is ∙ end_in_place p thread core core before there end

-- what was put there stands there
put_there : {A : Type 0} (l : List (Option A)) (i : ℕ) (x : Option A) → is_some (get_or l i None) ≡ true → get_or (set l i x) i None ≡ x
put_there [] i x there = absurd (not_none there)
put_there (y ∷ l) zero x there = refl
put_there (y ∷ l) (suc i) x there = put_there l i x there

there_now : (threads before : List (Option Thread)) (thread : ℕ) (core : Core) → is_some (get_or before thread None) ≡ true
    → threads ≡ put_thread before thread core None → get_or threads thread None ≡ Some (record { core = core; ended = None })
there_now threads before thread core there is = rw is (put_there before thread (Some (record { core = core; ended = None })) there)

abbrev core_in : Core → Option Thread → Core
core_in core None = core
core_in core (Some t) = t.core

-- the end of a thread that stands there as its event left it
pub ended_there : (p : Program) (threads before : List (Option Thread)) (thread : ℕ) (core : Core) (left : Thread) (end : End) (outcome : Outcome)
    → get_or threads thread None ≡ Some left → is_some (get_or before thread None) ≡ true → threads ≡ put_thread before thread core None
    → outcome ≡ after_end p thread left.core end threads → outcome ≡ after_end p thread core end before
ended_there p threads before thread core left end outcome stands there is e =
    let same : left.core ≡ core = ap (core_in core) (sym stands ∙ there_now threads before thread core there is) in
    ends_there p threads before thread core end outcome there is (e ∙ ap (λ (k : Core). after_end p thread k end threads) same)
