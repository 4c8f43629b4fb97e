-- The ends of the gates of exceptions, each with its value.
use Rattle.std.proofs.Common.{◌≡◌, ◌⊎◌, inl, inr, ℕ, ◌<◌, ◌≤◌, ◌==◌, Bool, true, false, cond, Option, None, Result, Ok, Err, refl, sym, ap, subst, ◌∙◌, arith}
use Rattle.std.specs.Prelude.{is_some}
use Rattle.std.proofs.lemmas.Bool.{eqb-true}
use Rattle.eh_bus.specs.Memory.{Memory}
use Rattle.eh_types.specs.Graph.{Row, row_of}
use Rattle.eh_cxa.specs.Words.{word, set_slot_words, block_slot, object_slot}
use Rattle.eh_cxa.specs.Allocate.{allocate_of, free_of}
use Rattle.eh_cxa.specs.Throw.{throw_fault, object_and_type}
use Rattle.eh_cxa.specs.Catch.{begin_catch_of, end_catch_of, rethrow_at}
use Rattle.eh_cxa.specs.declared.globals.Globals.{Globals}
use Rattle.eh_cxa.specs.declared.globals.CxaFault.{CxaFault}
use Rattle.eh_phase.specs.declared.verdict.Thrown.{Thrown}
use Rattle.eh_phase.specs.declared.phase1.Barrier.{Barrier}
use Rattle.eh_phase.specs.declared.phase1.Found.{Found}
use Rattle.eh_phase.specs.declared.phase1.Found.TheVariants as found
use Rattle.eh_phase.specs.declared.phase2.Entered.{Entered}
use Rattle.eh_phase.specs.declared.phase2.Entered.TheVariants as enters
use Rattle.eh_phase.specs.Phases.{phase2}
use Rattle.eh_phase.specs.Laws.{goal_of}
use Rattle.eh_trace.specs.declared.event.EventKind.{EventKind}
use Rattle.eh_trace.specs.declared.event.EventKind.TheVariants as kind
use Rattle.thumb_core.specs.declared.ends.TrapKind.TheVariants as trap
use Rattle.thumb_core.specs.declared.ends.Cause.{Cause}
use Rattle.thumb_core.specs.declared.ends.Cause.TheVariants as cause
use Rattle.thumb_core.specs.declared.ends.End.{End}
use Rattle.thumb_core.specs.declared.ends.End.TheVariants.{Trap, Terminate}
use Rattle.eh_gates.specs.declared.state.Turned.TheVariants.{Went, Ended}
use Rattle.eh_gates.specs.declared.gates.TheConstants.{ALLOCATE_GATE, FREE_GATE, THROW_GATE, BEGIN_CATCH_GATE, END_CATCH_GATE, RETHROW_GATE, END_CLEANUP_GATE, UNEXPECTED_GATE, TERMINATE_GATE, UNCAUGHT_GATE}
use Rattle.eh_gates.specs.State.{State, Tables, Outcome, reg, log_event}
use Rattle.eh_gates.specs.CallGates.{fault_end, refusal_outcome, allocate_outcome, free_outcome, begin_catch_outcome, end_catch_outcome}
use Rattle.eh_gates.specs.Landing.{enter_landing}
use Rattle.eh_gates.specs.Throwing.{frames_from, frames_at_gate, barrier_words, with_barrier, handler_object, throw_to, throw_event, size_of, barrier_in, phase1_result, find_barrier, from_barrier, flies_to, flies, first_flight, throw_outcome, gate_thrown, block_thrown, second_flight, rethrow_end, rethrow_outcome}
use Rattle.eh_gates.specs.Gates.{gate_of}
use Rattle.eh_gate_laws.specs.Refusals.{IsTrap, Terminates, NoWord, IsUnread, caught_type, GatesEndAsTold, OtherGatesAreNone, RefusalsComeInOrder}
use Rattle.eh_gate_laws.proofs.Answers.{ErrIs, allocate_err, free_err, throw_err, may_throw_err, catch_err, end_catch_err, rethrow_err, rethrow_top}
use Rattle.eh_gate_laws.proofs.Unread.{unread}

-- an outcome that ends does so by an end of a kind
abbrev pub EndIs : (End → Type 0) → Outcome → Type 0
EndIs P (Went, t) = Unit {0}
EndIs P (Ended end, t) = P end

pub by_end : (P : End → Type 0) (o : Outcome) (end : End) (t : State) → EndIs P o → o ≡ (Ended end, t) → P end
by_end P o end t h e = subst (λ (x : Outcome). EndIs P x) e h

either : {A : Type 0} (P : A → Type 0) (b : Bool) (x y : A) → P x → P y → P (cond b x y)
either P true x y px py = px
either P false x y px py = py

-- what a refusal by these faults ends by
abbrev By : (End → Type 0) → ℕ → State → CxaFault → Type 0
By P given s why = P (fault_end why given s.regs.pc)

module _ (P : End → Type 0) (next : ℕ) (s : State) where
  allocates : (p : Result ℕ CxaFault) (m : Memory) → ErrIs (By P (reg s 0) s) p → EndIs P (allocate_outcome next s (p, m))
  allocates (Ok x) m h = tt
  allocates (Err why) m h = h

  frees : (p : Result (Unit {0}) CxaFault) (m : Memory) → ErrIs (By P (reg s 0) s) p → EndIs P (free_outcome next s (p, m))
  frees (Ok x) m h = tt
  frees (Err why) m h = h

  catches : (p : Result ℕ CxaFault) (g : Globals) (m : Memory) → ErrIs (By P (reg s 0) s) p → EndIs P (begin_catch_outcome next s (p, g, m))
  catches (Ok x) g m h = tt
  catches (Err why) g m h = h

  drops : (p : Result (ℕ × ℕ) CxaFault) (g : Globals) (m : Memory) → ErrIs (By P 0 s) p → EndIs P (end_catch_outcome next s (p, g, m))
  drops (Ok (x, y)) g m h = tt
  drops (Err why) g m h = h

-- ---- throws

module _ (P : End → Type 0) (terminate : (why : Cause) → P (Terminate why)) where
  lands : (s : State) (block object : ℕ) (e : Entered) → EndIs P (enter_landing s block object e)
  lands s block object (enters.Cleanup vrs pad next site) = tt
  lands s block object (enters.Catch vrs pad) = tt
  lands s block object (enters.Spec vrs pad) = tt
  lands s block object enters.Unexpected = terminate cause.Unexpected
  lands s block object (enters.Terminate why) = terminate why

  throws_to : (g : Tables) (s : State) (site block : ℕ) (b : Barrier) → EndIs P (throw_to g s site block b)
  unfolding throw_to
  throws_to g s site block b =
      let u = with_barrier s block (barrier_words block b) in
      lands u block (handler_object block b.hit) (phase2 (goal_of b) 0 (frames_from g u None site))

  flies_by : (g : Tables) (s : State) (given : ℕ) (b : Barrier) (r : Result ℕ CxaFault) → ErrIs (By P given s) r → EndIs P (flies_to g s given b r)
  flies_by g s given b (Ok block) h = throws_to g s s.regs.pc block b
  flies_by g s given b (Err why) h = h

  sought_by : (g : Tables) (s : State) (what : EventKind) (thrown : Thrown) (further : Barrier → State → Outcome)
      → P (Trap trap.BadType thrown.ty s.regs.pc) → ((a : ℕ) → NoWord s.memory a → P (Trap trap.ObjectRead a s.regs.pc))
      → ((b : Barrier) → EndIs P (further b (log_event s (throw_event what s.memory thrown (size_of s thrown)))))
      → EndIs P (from_barrier further (find_barrier g s what thrown))
  unfolding find_barrier
  sought_by g s what thrown further bad unread_end onward =
      either (λ (p : Result Barrier End × State). EndIs P (from_barrier further p)) (is_some (row_of g.types thrown.ty)) _ _ (by (phase1_result g s thrown) refl) bad
    where
      by : (f : Found) → phase1_result g s thrown ≡ f → EndIs P (from_barrier further (barrier_in s.regs.pc f, log_event s (throw_event what s.memory thrown (size_of s thrown))))
      by (found.Barrier b) e = onward b
      by (found.Terminate why) e = terminate why
      by (found.ObjectRead a) e = unread_end a (unread g.image g.types s.memory.segments thrown (frames_at_gate g s) a e)

-- ---- gate by gate

at_allocate : (g : Tables) (next : ℕ) (s : State) → EndIs (λ end. IsTrap s trap.TooBig (reg s 0) end ⊎ (end ≡ Terminate cause.PoolFull)) (gate_of g 16 next s)
unfolding gate_of
at_allocate g next s =
    let P : End → Type 0 = λ end. IsTrap s trap.TooBig (reg s 0) end ⊎ (end ≡ Terminate cause.PoolFull) in
    let d = allocate_of (word s.memory) (reg s 0) in
    allocates P next s d.answer (set_slot_words d.writes s.memory) (allocate_err (By P (reg s 0) s) (word s.memory) (reg s 0) (inl refl) (inr refl))

at_free : (g : Tables) (next : ℕ) (s : State) → EndIs (λ end. IsTrap s trap.BadObject (reg s 0) end) (gate_of g 17 next s)
unfolding gate_of
at_free g next s =
    let P : End → Type 0 = λ end. IsTrap s trap.BadObject (reg s 0) end in
    let d = free_of (word s.memory) (object_slot (reg s 0)) in
    frees P next s d.answer (set_slot_words d.writes s.memory) (free_err (By P (reg s 0) s) (word s.memory) (object_slot (reg s 0)) refl)

abbrev ThrowEnd : State → End → Type 0
ThrowEnd s end = IsTrap s trap.BadObject (reg s 0) end ⊎ (IsTrap s trap.BadType (reg s 1) end ⊎ (IsUnread s end ⊎ Terminates end))

throw_by : (g : Tables) (s : State) (r : Result (Unit {0}) CxaFault) → ErrIs (By (ThrowEnd s) (reg s 0) s) r → EndIs (ThrowEnd s) (throw_outcome g s r)
throw_by g s (Err why) h = h
throw_by g s (Ok may) h =
    let terminate : (why : Cause) → ThrowEnd s (Terminate why) = λ why. inr (inr (inr (why, refl))) in
    sought_by (ThrowEnd s) terminate g s kind.Throw (gate_thrown s) (λ b t. flies g t (reg s 0) (first_flight t) b) (inr (inl refl)) (λ a none. inr (inr (inl (a, refl, none))))
    (λ b.
    let t = log_event s (throw_event kind.Throw s.memory (gate_thrown s) (size_of s (gate_thrown s))) in
    flies_by (ThrowEnd s) terminate g (record t { globals = (first_flight t).globals; memory = set_slot_words (first_flight t).writes t.memory }) (reg s 0) b (first_flight t).answer
    (throw_err (By (ThrowEnd s) (reg s 0) s) (word t.memory) t.globals (object_slot (reg t 0)) _ (inl refl)))

at_throw : (g : Tables) (next : ℕ) (s : State) → EndIs (ThrowEnd s) (gate_of g 18 next s)
unfolding gate_of
at_throw g next s =
    throw_by g s (throw_fault (word s.memory) (object_slot (reg s 0))) (may_throw_err (By (ThrowEnd s) (reg s 0) s) (word s.memory) (object_slot (reg s 0)) (inl refl))

at_begin_catch : (g : Tables) (next : ℕ) (s : State) → EndIs (λ end. IsTrap s trap.BadUcb (reg s 0) end ⊎ IsTrap s trap.CaughtOrder (reg s 0) end) (gate_of g 19 next s)
unfolding gate_of
at_begin_catch g next s =
    let P : End → Type 0 = λ end. IsTrap s trap.BadUcb (reg s 0) end ⊎ IsTrap s trap.CaughtOrder (reg s 0) end in
    let d = begin_catch_of (word s.memory) s.globals (reg s 0) in
    catches P next s d.answer d.globals (set_slot_words d.writes s.memory) (catch_err (By P (reg s 0) s) (word s.memory) s.globals (reg s 0) (inl refl) (inr refl))

at_end_catch : (g : Tables) (next : ℕ) (s : State) → EndIs (λ end. IsTrap s trap.NoCaught 0 end) (gate_of g 20 next s)
unfolding gate_of
at_end_catch g next s =
    let P : End → Type 0 = λ end. IsTrap s trap.NoCaught 0 end in
    let d = end_catch_of (word s.memory) s.globals in
    drops P next s d.answer d.globals (set_slot_words d.writes s.memory) (end_catch_err (By P 0 s) (word s.memory) s.globals refl)

abbrev RethrowEnd : State → End → Type 0
RethrowEnd s end = IsTrap s trap.CaughtOrder s.globals.caught end ⊎ (IsTrap s trap.BadType (caught_type s) end ⊎ (IsUnread s end ⊎ Terminates end))

-- the type of what is thrown again is that of the top
top_type : (s : State) (block : ℕ) → (second_flight s).answer ≡ Ok block → (block_thrown s block).ty ≡ caught_type s
top_type s block e = ap (λ (o : Option ℕ). (object_and_type (word s.memory) o).1) (rethrow_top (word s.memory) s.globals block e)

rethrow_by : (g : Tables) (s : State) (r : Result ℕ CxaFault) → (second_flight s).answer ≡ r → ErrIs (λ why. RethrowEnd s (rethrow_end why s.globals.caught s.regs.pc)) r → EndIs (RethrowEnd s) (rethrow_outcome g s r)
rethrow_by g s (Err why) e h = h
rethrow_by g s (Ok block) e h =
    let terminate : (why : Cause) → RethrowEnd s (Terminate why) = λ why. inr (inr (inr (why, refl))) in
    sought_by (RethrowEnd s) terminate g s kind.Rethrow (block_thrown s block) (λ b t. flies g t block (second_flight t) b)
    (inr (inl (ap (λ (ty : ℕ). Trap trap.BadType ty s.regs.pc) (top_type s block e)))) (λ a none. inr (inr (inl (a, refl, none))))
    (λ b.
    let t = log_event s (throw_event kind.Rethrow s.memory (block_thrown s block) (size_of s (block_thrown s block))) in
    let u : State = record t { globals = (second_flight s).globals; memory = set_slot_words (second_flight s).writes s.memory } in
    subst (λ (r : Result ℕ CxaFault). EndIs (RethrowEnd s) (flies_to g u block b r)) (sym e) (throws_to (RethrowEnd s) terminate g u u.regs.pc block b))

at_rethrow : (g : Tables) (next : ℕ) (s : State) → EndIs (RethrowEnd s) (gate_of g 21 next s)
unfolding gate_of
at_rethrow g next s =
    rethrow_by g s (second_flight s).answer refl
    (rethrow_err (λ why. RethrowEnd s (rethrow_end why s.globals.caught s.regs.pc)) (word s.memory) s.globals (inr (inr (inr (cause.NothingCaught, refl)))) (inl refl))

at_unexpected : (g : Tables) (next : ℕ) (s : State) → EndIs (λ end. end ≡ Terminate cause.Unexpected) (gate_of g 23 next s)
unfolding gate_of
at_unexpected g next s = refl

at_called : (g : Tables) (next : ℕ) (s : State) → EndIs (λ end. end ≡ Terminate cause.Called) (gate_of g 24 next s)
unfolding gate_of
at_called g next s = refl

at_uncaught : (g : Tables) (next : ℕ) (s : State) → EndIs (λ end. ⊥) (gate_of g 25 next s)
unfolding gate_of
at_uncaught g next s = tt

pub end_as_told : GatesEndAsTold
end_as_told g next s t end = record {
  allocate = λ e. by_end (λ end. IsTrap s trap.TooBig (reg s 0) end ⊎ (end ≡ Terminate cause.PoolFull)) (gate_of g 16 next s) end t (at_allocate g next s) e;
  free = λ e. by_end (λ end. IsTrap s trap.BadObject (reg s 0) end) (gate_of g 17 next s) end t (at_free g next s) e;
  throw = λ e. by_end (ThrowEnd s) (gate_of g 18 next s) end t (at_throw g next s) e;
  begin_catch = λ e. by_end (λ end. IsTrap s trap.BadUcb (reg s 0) end ⊎ IsTrap s trap.CaughtOrder (reg s 0) end) (gate_of g 19 next s) end t (at_begin_catch g next s) e;
  end_catch = λ e. by_end (λ end. IsTrap s trap.NoCaught 0 end) (gate_of g 20 next s) end t (at_end_catch g next s) e;
  rethrow = λ e. by_end (RethrowEnd s) (gate_of g 21 next s) end t (at_rethrow g next s) e;
  unexpected = λ e. by_end (λ end. end ≡ Terminate cause.Unexpected) (gate_of g 23 next s) end t (at_unexpected g next s) e;
  called = λ e. by_end (λ end. end ≡ Terminate cause.Called) (gate_of g 24 next s) end t (at_called g next s) e;
  uncaught = λ e. by_end (λ end. ⊥) (gate_of g 25 next s) end t (at_uncaught g next s) e;
}

-- ---- other numbers

unless : {A : Type 0} (P : A → Type 0) (b : Bool) (x y : A) → (b ≡ true → ⊥) → P y → P (cond b x y)
unless P true x y never py = absurd (never refl)
unless P false x y never py = py

not_at : (number gate : ℕ) → (number < 16) ⊎ (25 < number) → 16 ≤ gate → gate ≤ 25 → (number == gate) ≡ true → ⊥
not_at number gate (inl h) low high e = let is = eqb-true number gate e in absurd (omega arith)
not_at number gate (inr h) low high e = let is = eqb-true number gate e in absurd (omega arith)

pub are_none : OtherGatesAreNone
unfolding gate_of
are_none g number next s out =
    let P : Outcome → Type 0 = λ o. o ≡ (Ended (Trap trap.UnknownGate number s.regs.pc), s) in
    unless P (number == ALLOCATE_GATE) _ _ (not_at number 16 out (omega arith) (omega arith)) (
    unless P (number == FREE_GATE) _ _ (not_at number 17 out (omega arith) (omega arith)) (
    unless P (number == THROW_GATE) _ _ (not_at number 18 out (omega arith) (omega arith)) (
    unless P (number == BEGIN_CATCH_GATE) _ _ (not_at number 19 out (omega arith) (omega arith)) (
    unless P (number == END_CATCH_GATE) _ _ (not_at number 20 out (omega arith) (omega arith)) (
    unless P (number == RETHROW_GATE) _ _ (not_at number 21 out (omega arith) (omega arith)) (
    unless P (number == END_CLEANUP_GATE) _ _ (not_at number 22 out (omega arith) (omega arith)) (
    unless P (number == UNEXPECTED_GATE) _ _ (not_at number 23 out (omega arith) (omega arith)) (
    unless P (number == TERMINATE_GATE) _ _ (not_at number 24 out (omega arith) (omega arith)) (
    unless P (number == UNCAUGHT_GATE) _ _ (not_at number 25 out (omega arith) (omega arith)) refl)))))))))

-- ---- which refusal comes first

no_type : (g : Tables) (s : State) (what : EventKind) (thrown : Thrown) (further : Barrier → State → Outcome) → row_of g.types thrown.ty ≡ None
    → from_barrier further (find_barrier g s what thrown) ≡ (Ended (Trap trap.BadType thrown.ty s.regs.pc), s)
unfolding find_barrier
no_type g s what thrown further e =
    ap (λ (o : Option Row). from_barrier further (cond (is_some o) (barrier_in s.regs.pc (phase1_result g s thrown), log_event s (throw_event what s.memory thrown (size_of s thrown))) (Err (Trap trap.BadType thrown.ty s.regs.pc), s))) e

module _ (g : Tables) (next : ℕ) (s : State) where
  no_object : (why : CxaFault) → throw_fault (word s.memory) (object_slot (reg s 0)) ≡ Err why → gate_of g 18 next s ≡ (Ended (Trap trap.BadObject (reg s 0) s.regs.pc), s)
  unfolding gate_of
  no_object why e =
      let P : CxaFault → Type 0 = λ w. refusal_outcome w (reg s 0) s ≡ (Ended (Trap trap.BadObject (reg s 0) s.regs.pc), s) in
      ap (throw_outcome g s) e ∙ subst (ErrIs P) e (may_throw_err P (word s.memory) (object_slot (reg s 0)) refl)

  no_thrown_type : throw_fault (word s.memory) (object_slot (reg s 0)) ≡ Ok tt → row_of g.types (reg s 1) ≡ None → gate_of g 18 next s ≡ (Ended (Trap trap.BadType (reg s 1) s.regs.pc), s)
  unfolding gate_of
  no_thrown_type e none = ap (throw_outcome g s) e ∙ no_type g s kind.Throw (gate_thrown s) (λ b t. flies g t (reg s 0) (first_flight t) b) none

  nothing_caught : block_slot s.globals.caught ≡ None → gate_of g 21 next s ≡ (Ended (Terminate cause.NothingCaught), s)
  unfolding gate_of
  nothing_caught e = ap (λ (o : Option ℕ). rethrow_outcome g s (rethrow_at (word s.memory) s.globals o).answer) e

  no_caught_type : (block : ℕ) → (second_flight s).answer ≡ Ok block → row_of g.types (caught_type s) ≡ None → gate_of g 21 next s ≡ (Ended (Trap trap.BadType (caught_type s) s.regs.pc), s)
  unfolding gate_of
  no_caught_type block e none =
      ap (rethrow_outcome g s) e
      ∙ no_type g s kind.Rethrow (block_thrown s block) (λ b t. flies g t block (second_flight t) b) (ap (row_of g.types) (top_type s block e) ∙ none)
      ∙ ap (λ (ty : ℕ). (Ended (Trap trap.BadType ty s.regs.pc), s)) (top_type s block e)

pub come_in_order : RefusalsComeInOrder
come_in_order g next s = record { object = no_object g next s; thrown_type = no_thrown_type g next s; nothing = nothing_caught g next s; caught_type = no_caught_type g next s }
