-- A run of a schedule, from the elements that its loop has done.
use Rattle.std.proofs.Common.{◌≡◌, ℕ, zero, suc, ◌-◌, ◌<◌, false, List, [], ◌∷◌, length, Option, Some, None, IfSome, inl, inr, refl, sym, ap, subst, ◌∙◌, arith, append-nil}
use Rattle.std.specs.Io.KnownBytes.{Appends}
use Rattle.std.proofs.KnownBytes.{Appends-nil, Appends-trans}
use Rattle.run_events.specs.Runs.{Event, Goes, Machine, run_after, prepend, run, GoesOn, EndsBy, Runs}
use Rattle.run_events.proofs.Progress.{Progress, goes_on, ends, spent}
use Rattle.thumb_core.specs.declared.ends.End.{End}
use Rattle.thumb_core.specs.declared.ends.End.TheVariants.{Exit, Budget}
use Rattle.eh_gates.specs.declared.state.Turned.{Turned}
use Rattle.eh_gates.specs.declared.state.Turned.TheVariants.{Went, Ended}
use Rattle.sim_machines.specs.Program.{Program}
use Rattle.eh_threads.specs.Threads.{exit_number_of_all}
use Rattle.eh_threads.specs.Elements.{Joint, element}
use Rattle.eh_threads.specs.Schedules.{SchedulePoint, thread_at, place_after, event_at_place, at_first, unless_all_over, next_element, schedule_run}
use Rattle.eh_threads.proofs.Elements.{element_passed}
use Rattle.eh_threads.specs.Done.{ElementDone, ElementEnds, FaultAt, RanWhole, RanUpTo, RunsSchedule}

-- faults of the outside stand beside it
abbrev pub elements_of : Program → List ℕ → Machine SchedulePoint End
elements_of p schedule = record { event = next_element p schedule; spent = Budget; is_fault = λ end. false; may_fail = λ s end. false }

abbrev pub at_place : Joint → ℕ → SchedulePoint
at_place w at = record { joint = w; at = at }

next_by : (p : Program) (schedule : List ℕ) (w : Joint) (at : ℕ) (bytes : List ℕ) (e : Event Joint End) → element p (thread_at schedule at) w bytes ≡ e
    → next_element p schedule (at_place w at) bytes ≡ event_at_place (place_after schedule at) e
unfolding next_element
next_by p schedule w at bytes e is = ap (event_at_place (place_after schedule at)) is

placed_on : (p : Program) (schedule : List ℕ) (w w' : Joint) (at : ℕ) (left left' mid now : Option (List ℕ))
    → IfSome left (λ bytes. ElementDone p (thread_at schedule at) w bytes Went w' left' mid now)
    → IfSome left (λ bytes. GoesOn (next_element p schedule (at_place w at) bytes) (at_place w' (place_after schedule at)) left' mid now)
placed_on p schedule w w' at None left' mid now t = tt
placed_on p schedule w w' at (Some bytes) left' mid now t =
    record { text = t.text; rest = t.rest; is = next_by p schedule w at bytes _ t.is; leaves = t.leaves; wrote = t.wrote }

as_named : (p p' : Program) (named at : Option ℕ) (turned : Turned) (w w' : Joint) (left left' mid now : Option (List ℕ)) → p' ≡ p → named ≡ at
    → IfSome left (λ bytes. ElementDone p' named w bytes turned w' left' mid now) → IfSome left (λ bytes. ElementDone p at w bytes turned w' left' mid now)
as_named p p' named at turned w w' left left' mid now ep en t =
    subst (λ (q : Program). IfSome left (λ bytes. ElementDone q at w bytes turned w' left' mid now)) ep
    (subst (λ (o : Option ℕ). IfSome left (λ bytes. ElementDone p' o w bytes turned w' left' mid now)) en t)

-- `named` and `then` are what the calls of the loop gave
pub elements_go_on : (p p' : Program) (schedule : List ℕ) (n0 : ℕ) (s0 : SchedulePoint) (left0 : Option (List ℕ)) (n : ℕ) (w w' : Joint) (at then : ℕ) (named : Option ℕ)
    (left left' before mid now : Option (List ℕ)) → 0 < n → p' ≡ p → named ≡ thread_at schedule at → then ≡ place_after schedule at
    → IfSome left0 (λ bytes. Progress SchedulePoint End (elements_of p schedule) n0 s0 bytes n (at_place w at) left before mid)
    → IfSome left (λ bytes. ElementDone p' named w bytes Went w' left' mid now)
    → IfSome left0 (λ bytes. Progress SchedulePoint End (elements_of p schedule) n0 s0 bytes (n - 1) (at_place w' then) left' before now)
elements_go_on p p' schedule n0 s0 left0 n w w' at then named left left' before mid now h ep en ea progress t =
    subst (λ (k : ℕ). IfSome left0 (λ bytes. Progress SchedulePoint End (elements_of p schedule) n0 s0 bytes (n - 1) (at_place w' k) left' before now)) (sym ea)
    (goes_on SchedulePoint End (elements_of p schedule) n0 s0 left0 n (at_place w at) (at_place w' (place_after schedule at)) left left' before mid now h progress
    (placed_on p schedule w w' at left left' mid now (as_named p p' named (thread_at schedule at) Went w w' left left' mid now ep en t)))

-- ---- the ends

pub is_run : (p : Program) (schedule : List ℕ) (n : ℕ) (w : Joint) (input : List ℕ) → exit_number_of_all w.threads ≡ None
    → schedule_run p schedule n w input ≡ run (next_element p schedule) Budget n (at_first w) input
unfolding schedule_run
is_run p schedule n w input not_over =
    ap (λ (o : Option ℕ). unless_all_over o n (at_first w) input (run (next_element p schedule) Budget n (at_first w) input)) not_over

whole : (p : Program) (schedule : List ℕ) (n : ℕ) (w : Joint) (input : List ℕ) (end : End) (s : SchedulePoint) (unspent : ℕ) (left before now : Option (List ℕ))
    → exit_number_of_all w.threads ≡ None → Runs (elements_of p schedule) n (at_first w) input end s unspent left before now
    → RanWhole (schedule_run p schedule n w input) end s.joint left before now
whole p schedule n w input end s unspent left before now not_over r =
    rw (is_run p schedule n w input not_over)
    (record { ends = r.ends; threads = ap (λ (t : SchedulePoint). t.joint) r.state_is; leaves = r.leaves; wrote = r.wrote })

up_to : (p : Program) (schedule : List ℕ) (n0 : ℕ) (w0 : Joint) (bytes : List ℕ) (n : ℕ) (w w' : Joint) (at : ℕ) (left left' before mid now : Option (List ℕ)) (end : End) → 0 < n
    → exit_number_of_all w0.threads ≡ None
    → (q : Progress SchedulePoint End (elements_of p schedule) n0 (at_first w0) bytes n (at_place w at) left before mid)
    → left' ≡ Some q.rest → Appends mid now [] → FaultAt p (thread_at schedule at) w end w'
    → RanUpTo p schedule n0 w0 bytes end w' left' before now
up_to p schedule n0 w0 bytes n w w' at left left' before mid now end h not_over q leaves wrote f =
    let within = q.within in
    record {
      count = n0 - n;
      text = q.text;
      rest = q.rest;
      at = at_place w at;
      not_over = not_over;
      within = omega arith;
      went = q.went;
      fault = f;
      leaves = leaves;
      wrote = rw append-nil at (Appends-trans before mid now q.text [] q.wrote wrote);
    }

by_end : (p : Program) (schedule : List ℕ) (n0 : ℕ) (w0 : Joint) (bytes : List ℕ) (n : ℕ) (w w' : Joint) (at : ℕ) (left left' before mid now : Option (List ℕ)) (end : End) → 0 < n
    → exit_number_of_all w0.threads ≡ None
    → (q : Progress SchedulePoint End (elements_of p schedule) n0 (at_first w0) bytes n (at_place w at) left before mid)
    → ElementEnds p (thread_at schedule at) w q.rest end w' left' mid now
    → RunsSchedule p schedule n0 w0 bytes end w' left' before now
by_end p schedule n0 w0 bytes n w w' at left left' before mid now end h not_over q t =
    elim t.how [
      | inl is ↦
          let over : SchedulePoint = at_place w' (place_after schedule at) in
          let by : EndsBy (λ (e : End). false) (λ (e : End). false) (next_element p schedule (at_place w at) q.rest) end (at_place w at) over q.rest left' mid now =
          record { is = next_by p schedule w at q.rest _ is; fails = tt; leaves = t.leaves; wrote = t.wrote } in
          let done : IfSome left (λ input. EndsBy (λ (e : End). false) (λ (e : End). false) (next_element p schedule (at_place w at) input) end (at_place w at) over input left' mid now) =
          rw q.leaves by in
          inl (whole p schedule n0 w0 bytes end over (n - 1) left' before now not_over
          (ends SchedulePoint End (elements_of p schedule) n0 (at_first w0) (Some bytes) n (at_place w at) over left left' before mid now end h q done))
      | inr fault ↦ inr (up_to p schedule n0 w0 bytes n w w' at left left' before mid now end h not_over q t.leaves t.wrote fault)
    ]

from_named : (p : Program) (schedule : List ℕ) (n0 : ℕ) (w0 : Joint) (left0 : Option (List ℕ)) (n : ℕ) (w w' : Joint) (at : ℕ)
    (left left' before mid now : Option (List ℕ)) (end : End) → 0 < n → exit_number_of_all w0.threads ≡ None
    → IfSome left0 (λ bytes. Progress SchedulePoint End (elements_of p schedule) n0 (at_first w0) bytes n (at_place w at) left before mid)
    → IfSome left (λ bytes. ElementDone p (thread_at schedule at) w bytes (Ended end) w' left' mid now)
    → IfSome left0 (λ bytes. RunsSchedule p schedule n0 w0 bytes end w' left' before now)
from_named p schedule n0 w0 None n w w' at left left' before mid now end h not_over q t = tt
from_named p schedule n0 w0 (Some bytes) n w w' at left left' before mid now end h not_over q t =
    by_end p schedule n0 w0 bytes n w w' at left left' before mid now end h not_over q (rw q.leaves at t)

pub elements_end : (p p' : Program) (schedule : List ℕ) (n0 : ℕ) (w0 : Joint) (left0 : Option (List ℕ)) (n : ℕ) (w w' : Joint) (at : ℕ) (named : Option ℕ)
    (left left' before mid now : Option (List ℕ)) (end : End) → 0 < n → exit_number_of_all w0.threads ≡ None → p' ≡ p → named ≡ thread_at schedule at
    → IfSome left0 (λ bytes. Progress SchedulePoint End (elements_of p schedule) n0 (at_first w0) bytes n (at_place w at) left before mid)
    → IfSome left (λ bytes. ElementDone p' named w bytes (Ended end) w' left' mid now)
    → IfSome left0 (λ bytes. RunsSchedule p schedule n0 w0 bytes end w' left' before now)
elements_end p p' schedule n0 w0 left0 n w w' at named left left' before mid now end h not_over ep en q t =
    from_named p schedule n0 w0 left0 n w w' at left left' before mid now end h not_over q
    (as_named p p' named (thread_at schedule at) (Ended end) w w' left left' mid now ep en t)

pub elements_spent : (p : Program) (schedule : List ℕ) (n0 : ℕ) (w0 : Joint) (left0 : Option (List ℕ)) (n : ℕ) (w : Joint) (at : ℕ) (left before now : Option (List ℕ))
    → n ≡ 0 → exit_number_of_all w0.threads ≡ None
    → IfSome left0 (λ bytes. Progress SchedulePoint End (elements_of p schedule) n0 (at_first w0) bytes n (at_place w at) left before now)
    → IfSome left0 (λ bytes. RunsSchedule p schedule n0 w0 bytes Budget w left before now)
elements_spent p schedule n0 w0 None n w at left before now none not_over q = tt
elements_spent p schedule n0 w0 (Some bytes) n w at left before now none not_over q =
    inl (whole p schedule n0 w0 bytes Budget (at_place w at) n left before now not_over
    (spent SchedulePoint End (elements_of p schedule) n0 (at_first w0) (Some bytes) n (at_place w at) left before now none refl q))

-- ---- all threads are over before the run

is_over : (p : Program) (schedule : List ℕ) (n : ℕ) (w : Joint) (input : List ℕ) (number : ℕ) → exit_number_of_all w.threads ≡ Some number
    → schedule_run p schedule n w input ≡ record { text = []; end = Exit number; state = at_first w; left = input; spare = n }
unfolding schedule_run
is_over p schedule n w input number over =
    ap (λ (o : Option ℕ). unless_all_over o n (at_first w) input (run (next_element p schedule) Budget n (at_first w) input)) over

pub over_before : (p : Program) (schedule : List ℕ) (n : ℕ) (w : Joint) (left out : Option (List ℕ)) (number : ℕ) → Some number ≡ exit_number_of_all w.threads
    → IfSome left (λ bytes. RunsSchedule p schedule n w bytes (Exit number) w left out out)
over_before p schedule n w None out number over = tt
over_before p schedule n w (Some bytes) out number over =
    inl (rw (is_over p schedule n w bytes number (sym over)) (record { ends = refl; threads = refl; leaves = refl; wrote = Appends-nil out }))

-- ---- a schedule without elements

next_passed : (p : Program) (w : Joint) (input : List ℕ) → next_element p [] (at_first w) input ≡ Goes (at_first w) [] input
unfolding next_element
next_passed p w input = ap (event_at_place 0) (element_passed p None w input refl)

all_passed : (p : Program) (n : ℕ) (w : Joint) (input : List ℕ)
    → run (next_element p []) Budget n (at_first w) input ≡ record { text = []; end = Budget; state = at_first w; left = input; spare = 0 }
unfolding run
all_passed p zero w input = refl
all_passed p (suc n) w input =
    ap (λ (e : Event SchedulePoint End). run_after e (run (next_element p []) Budget n) n input) (next_passed p w input)
    ∙ ap (prepend []) (all_passed p n w input)

is_nothing : (schedule : List ℕ) → length schedule ≡ 0 → schedule ≡ []
is_nothing [] e = refl
is_nothing (byte ∷ more) e = absurd (omega arith)

pub none_named : (p : Program) (schedule : List ℕ) (n : ℕ) (w : Joint) (left out : Option (List ℕ)) → length schedule ≡ 0 → exit_number_of_all w.threads ≡ None
    → IfSome left (λ bytes. RunsSchedule p schedule n w bytes Budget w left out out)
none_named p schedule n w None out none not_over = tt
none_named p schedule n w (Some bytes) out none not_over =
    rw (is_nothing schedule none)
    (inl (rw (is_run p [] n w bytes not_over ∙ all_passed p n w bytes) (record { ends = refl; threads = refl; leaves = refl; wrote = Appends-nil out })))
