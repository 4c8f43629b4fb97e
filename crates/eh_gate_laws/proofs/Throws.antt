-- The event of a throw, and what a throw without a barrier leaves.
use Rattle.std.proofs.Common.{◌≡◌, ◌≢◌, inl, inr, ℕ, zero, suc, ◌+◌, ◌-◌, ◌%◌, ◌^◌, ◌<◌, min, true, List, [], ◌∷◌, map, length, slice_index, None, Result, Ok, Err, refl, sym, ap, ◌∙◌, subst, arith}
use Rattle.std.specs.Prelude.{is_some}
use Rattle.std.proofs.lemmas.Bool.{lt-ltb, le-ltb}
use Rattle.eh_bus.specs.Memory.{Memory, load}
use Rattle.eh_types.specs.Graph.{row_of}
use Rattle.eh_cxa.specs.Words.{word, object_slot}
use Rattle.eh_cxa.specs.Allocate.{size_at}
use Rattle.eh_cxa.specs.Throw.{throw_fault}
use Rattle.eh_cxa.specs.declared.globals.CxaFault.{CxaFault}
use Rattle.eh_phase.specs.declared.verdict.Thrown.{Thrown}
use Rattle.eh_phase.specs.declared.phase1.Barrier.{Barrier}
use Rattle.eh_phase.specs.declared.phase1.Found.{Found}
use Rattle.eh_phase.specs.declared.phase1.Found.TheVariants as found
use Rattle.eh_phase.specs.declared.phase2.Entered.{Entered}
use Rattle.eh_phase.specs.declared.phase2.Entered.TheVariants as enters
use Rattle.eh_phase.specs.Phases.{phase2}
use Rattle.eh_phase.specs.Laws.{goal_of}
use Rattle.eh_trace.specs.Trace.{Trace, total_of, counting, push_event}
use Rattle.eh_trace.specs.declared.event.Event.{Event}
use Rattle.eh_trace.specs.declared.event.EventKind.{EventKind}
use Rattle.eh_trace.specs.declared.event.EventKind.TheVariants.{Throw, Rethrow, Cleanup, Catch, Unexpected}
use Rattle.thumb_core.specs.Words.{numbers}
use Rattle.thumb_core.specs.declared.regs.TheConstants.{SP}
use Rattle.thumb_core.specs.declared.ends.End.TheVariants as the_end
use Rattle.thumb_core.specs.declared.ends.TrapKind.TheVariants as trap
use Rattle.eh_gates.specs.State.{State, Tables, Outcome, reg, log_event}
use Rattle.eh_gates.specs.Landing.{pad_event, enter_landing}
use Rattle.eh_gates.specs.Throwing.{frames_from, barrier_words, with_barrier, handler_object, throw_to, byte_of, throw_event, size_of, barrier_in, phase1_result, find_barrier, from_barrier, flies_to, flies, first_flight, throw_outcome, second_flight, rethrow_outcome}
use Rattle.eh_gates.specs.Gates.{gate_of}
use Rattle.eh_gate_laws.specs.Throws.{IsOf, Begins, AddsEvent, gate_thrown, rethrown_object, MayThrow, MayRethrow, ThrowsAddTheirEvent, OneMore, OnlyAdds, FindsNone, FailedSearchesAddOne}

-- ---- the bytes of an event

-- numbers that count up from i
abbrev Counts : ℕ → List ℕ → Type 0
Counts i [] = Unit {0}
Counts i (x ∷ more) = (x ≡ i) × Counts (suc i) more

mapped_at : (f : ℕ → ℕ) (i : ℕ) (xs : List ℕ) (k : ℕ) → Counts i xs → k < length xs → slice_index (map f xs) k ≡ f (i + k)
mapped_at f i [] k c h = absurd (omega arith)
mapped_at f i (x ∷ more) zero c h = let same : x ≡ i + zero = omega (arith, c.0) in ap f same
mapped_at f i (x ∷ more) (suc k) c h = let same : suc i + k ≡ i + suc k = omega arith in mapped_at f (suc i) more k c.1 (omega arith) ∙ ap f same

numbers_count : Counts 0 numbers
numbers_count = (refl, (refl, (refl, (refl, (refl, (refl, (refl, (refl, (refl, (refl, (refl, (refl, (refl, (refl, (refl, (refl, tt))))))))))))))))

byte_is : (m : Memory) (at count k byte : ℕ) → k < count → load 1 m ((at + k) % 2 ^ 32) ≡ Ok byte → byte_of m at count k ≡ byte
byte_is m at count k byte h e = rw (lt-ltb k count h, e) refl

event_is : (s : State) (what : EventKind) (thrown : Thrown) (size : ℕ) → IsOf s what thrown size (throw_event what s.memory thrown size)
event_is s what thrown size = record {
  kind = refl;
  object = refl;
  ty = refl;
  count = refl;
  bytes = λ k byte h e.
      let f = byte_of s.memory thrown.object (min size 16) in
      let inside : k < 16 = omega (arith, h) in
      let same : 0 + k ≡ k = omega arith in
      mapped_at f 0 numbers k numbers_count inside ∙ (ap f same ∙ byte_is s.memory thrown.object (min size 16) k byte h e);
}

-- ---- what comes after it

enters_after : (u : State) (block object : ℕ) (e : Entered) (old : Trace) (ev : Event) → u.events ≡ push_event old ev → Begins old ev (enter_landing u block object e).1.events
enters_after u block object (enters.Cleanup vrs pad next site) old ev q =
    let later = pad_event Cleanup pad (slice_index vrs.r SP) 0 in inr (later, ap (λ (t : Trace). push_event t later) q)
enters_after u block object (enters.Catch vrs pad) old ev q =
    let later = pad_event Catch pad (slice_index vrs.r SP) object in inr (later, ap (λ (t : Trace). push_event t later) q)
enters_after u block object (enters.Spec vrs pad) old ev q =
    let later = pad_event Unexpected pad (slice_index vrs.r SP) 0 in inr (later, ap (λ (t : Trace). push_event t later) q)
enters_after u block object enters.Unexpected old ev q = inl q
enters_after u block object (enters.Terminate why) old ev q = inl q

flight_after : (g : Tables) (s : State) (site block : ℕ) (b : Barrier) (old : Trace) (ev : Event) → s.events ≡ push_event old ev → Begins old ev (throw_to g s site block b).1.events
unfolding throw_to
flight_after g s site block b old ev q =
    let u = with_barrier s block (barrier_words block b) in
    enters_after u block (handler_object block b.hit) (phase2 (goal_of b) 0 (frames_from g u None site)) old ev q

flies_after : (g : Tables) (s : State) (given : ℕ) (b : Barrier) (r : Result ℕ CxaFault) (old : Trace) (ev : Event) → s.events ≡ push_event old ev → Begins old ev (flies_to g s given b r).1.events
flies_after g s given b (Ok block) old ev q = flight_after g s s.regs.pc block b old ev q
flies_after g s given b (Err why) old ev q = inl q

-- ---- the gates, after their event

found_is : (g : Tables) (s : State) (what : EventKind) (thrown : Thrown) → is_some (row_of g.types thrown.ty) ≡ true
    → find_barrier g s what thrown ≡ (barrier_in s.regs.pc (phase1_result g s thrown), log_event s (throw_event what s.memory thrown (size_of s thrown)))
unfolding find_barrier
found_is g s what thrown held = rw held refl

module _ (g : Tables) (s : State) (what : EventKind) (thrown : Thrown) (size : ℕ) (sized : size_of s thrown ≡ size) (further : Barrier → State → Outcome) where
  abbrev after : State
  after = log_event s (throw_event what s.memory thrown (size_of s thrown))

  event_of : IsOf s what thrown size (throw_event what s.memory thrown (size_of s thrown))
  event_of = subst (λ (n : ℕ). IsOf s what thrown n (throw_event what s.memory thrown (size_of s thrown))) sized (event_is s what thrown (size_of s thrown))

  adds : (f : Found) → ((b : Barrier) → Begins s.events (throw_event what s.memory thrown (size_of s thrown)) (further b after).1.events)
      → AddsEvent s what thrown size (from_barrier further (barrier_in s.regs.pc f, after))
  adds (found.Barrier b) go = record { event = throw_event what s.memory thrown (size_of s thrown); is = event_of; begins = go b }
  adds (found.Terminate why) go = record { event = throw_event what s.memory thrown (size_of s thrown); is = event_of; begins = inl refl }
  adds (found.ObjectRead a) go = record { event = throw_event what s.memory thrown (size_of s thrown); is = event_of; begins = inl refl }

  only : (f : Found) → OneMore s.events (throw_event what s.memory thrown (size_of s thrown)) after.events → ((b : Barrier) → f ≡ found.Barrier b → ⊥)
      → OnlyAdds s what thrown size (from_barrier further (barrier_in s.regs.pc f, after))
  only (found.Barrier b) more none = absurd (none b refl)
  only (found.Terminate why) more none = record {
    end = the_end.Terminate why;
    ended = refl;
    event = throw_event what s.memory thrown (size_of s thrown);
    is = event_of;
    events = more;
    regs = refl;
    globals = refl;
    memory = refl;
  }
  only (found.ObjectRead a) more none = record {
    end = the_end.Trap trap.ObjectRead a s.regs.pc;
    ended = refl;
    event = throw_event what s.memory thrown (size_of s thrown);
    is = event_of;
    events = more;
    regs = refl;
    globals = refl;
    memory = refl;
  }

-- ---- one event more

counted : (what : EventKind) (t : Trace) (xs : List Event) → total_of what (record (counting what t) { kept = xs }) ≡ min (total_of what t + 1) (2 ^ 64 - 1)
counted Throw t xs = refl
counted Rethrow t xs = refl
counted Cleanup t xs = refl
counted Catch t xs = refl
counted Unexpected t xs = refl

others : (what other : EventKind) (t : Trace) (xs : List Event) → other ≢ what → total_of other (record (counting what t) { kept = xs }) ≡ total_of other t
others Throw Throw t xs never = absurd (never refl)
others Throw Rethrow t xs never = refl
others Throw Cleanup t xs never = refl
others Throw Catch t xs never = refl
others Throw Unexpected t xs never = refl
others Rethrow Throw t xs never = refl
others Rethrow Rethrow t xs never = absurd (never refl)
others Rethrow Cleanup t xs never = refl
others Rethrow Catch t xs never = refl
others Rethrow Unexpected t xs never = refl
others Cleanup Throw t xs never = refl
others Cleanup Rethrow t xs never = refl
others Cleanup Cleanup t xs never = absurd (never refl)
others Cleanup Catch t xs never = refl
others Cleanup Unexpected t xs never = refl
others Catch Throw t xs never = refl
others Catch Rethrow t xs never = refl
others Catch Cleanup t xs never = refl
others Catch Catch t xs never = absurd (never refl)
others Catch Unexpected t xs never = refl
others Unexpected Throw t xs never = refl
others Unexpected Rethrow t xs never = refl
others Unexpected Cleanup t xs never = refl
others Unexpected Catch t xs never = refl
others Unexpected Unexpected t xs never = absurd (never refl)

one_more : (old : Trace) (e : Event) → OneMore old e (push_event old e)
one_more old e = record {
  kept = λ h. rw (lt-ltb (length old.kept) 10000 h) refl;
  full = λ h. rw (le-ltb (length old.kept) 10000 h) refl;
  counted = counted e.kind old _;
  others = λ what never. others e.kind what old _ never;
}

-- ---- gate 18

module _ (g : Tables) (next : ℕ) (s : State) (slot : ℕ) (may : MayThrow g s slot) where
  abbrev onward : Barrier → State → Outcome
  onward b t = flies g t (reg s 0) (first_flight t) b

  is_throw : gate_of g 18 next s ≡ throw_outcome g s (throw_fault (word s.memory) (object_slot (reg s 0)))
  unfolding gate_of
  is_throw = refl

  throw_is : gate_of g 18 next s ≡ from_barrier onward (barrier_in s.regs.pc (phase1_result g s (gate_thrown s)), after g s Throw (gate_thrown s) (size_of s (gate_thrown s)) refl onward)
  throw_is = is_throw ∙ (ap (throw_outcome g s) may.fresh ∙ ap (from_barrier onward) (found_is g s Throw (gate_thrown s) may.held))

  throw_size : size_of s (gate_thrown s) ≡ word s.memory slot 1
  throw_size = ap (size_at (word s.memory)) may.is_slot

  first_adds : AddsEvent s Throw (gate_thrown s) (word s.memory slot 1) (gate_of g 18 next s)
  first_adds =
      subst (λ (o : Outcome). AddsEvent s Throw (gate_thrown s) (word s.memory slot 1) o) (sym throw_is)
      (adds g s Throw (gate_thrown s) (word s.memory slot 1) throw_size onward (phase1_result g s (gate_thrown s)) (λ b. flies_after g _ (reg s 0) b _ s.events _ refl))

  first_only : FindsNone g s (gate_thrown s) → OnlyAdds s Throw (gate_thrown s) (word s.memory slot 1) (gate_of g 18 next s)
  first_only none =
      subst (λ (o : Outcome). OnlyAdds s Throw (gate_thrown s) (word s.memory slot 1) o) (sym throw_is)
      (only g s Throw (gate_thrown s) (word s.memory slot 1) throw_size onward (phase1_result g s (gate_thrown s)) (one_more s.events _) none)

-- ---- gate 21

module _ (g : Tables) (next : ℕ) (s : State) (block slot : ℕ) (may : MayRethrow g s block slot) where
  abbrev onward_again : Barrier → State → Outcome
  onward_again b t = flies g t block (second_flight t) b

  is_rethrow : gate_of g 21 next s ≡ rethrow_outcome g s (second_flight s).answer
  unfolding gate_of
  is_rethrow = refl

  rethrow_is :
      gate_of g 21 next s
      ≡ from_barrier onward_again (barrier_in s.regs.pc (phase1_result g s (rethrown_object s block)), after g s Rethrow (rethrown_object s block) (size_of s (rethrown_object s block)) refl onward_again)
  rethrow_is = is_rethrow ∙ (ap (rethrow_outcome g s) may.caught ∙ ap (from_barrier onward_again) (found_is g s Rethrow (rethrown_object s block) may.held))

  rethrow_size : size_of s (rethrown_object s block) ≡ word s.memory slot 1
  rethrow_size = ap (size_at (word s.memory)) may.is_slot

  again_adds : AddsEvent s Rethrow (rethrown_object s block) (word s.memory slot 1) (gate_of g 21 next s)
  again_adds =
      subst (λ (o : Outcome). AddsEvent s Rethrow (rethrown_object s block) (word s.memory slot 1) o) (sym rethrow_is)
      (adds g s Rethrow (rethrown_object s block) (word s.memory slot 1) rethrow_size onward_again (phase1_result g s (rethrown_object s block)) (λ b. flies_after g _ block b _ s.events _ refl))

  again_only : FindsNone g s (rethrown_object s block) → OnlyAdds s Rethrow (rethrown_object s block) (word s.memory slot 1) (gate_of g 21 next s)
  again_only none =
      subst (λ (o : Outcome). OnlyAdds s Rethrow (rethrown_object s block) (word s.memory slot 1) o) (sym rethrow_is)
      (only g s Rethrow (rethrown_object s block) (word s.memory slot 1) rethrow_size onward_again (phase1_result g s (rethrown_object s block)) (one_more s.events _) none)

pub add_their_event : ThrowsAddTheirEvent
add_their_event = record { first = first_adds; again = again_adds }

pub add_one : FailedSearchesAddOne
add_one = record { first = first_only; again = again_only }
