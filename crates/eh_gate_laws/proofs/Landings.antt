-- What stands in registers where a gate goes on.
use Rattle.std.proofs.Common.{◌≡◌, ◌≢◌, ◌⊎◌, inl, inr, ℕ, zero, suc, ◌≤◌, ◌==◌, Bool, true, false, cond, List, slice_index, Option, Some, None, Result, Ok, Err, refl, sym, subst, ◌∙◌, arith}
use Rattle.std.specs.Prelude.{is_some, slice_set}
use Rattle.std.proofs.lemmas.Bool.{eqb-true}
use Rattle.std.proofs.lemmas.List.{get_or-set_other}
use Rattle.eh_bus.specs.Memory.{Memory}
use Rattle.eh_bytecode.specs.declared.frame.Vrs.{Vrs}
use Rattle.eh_types.specs.Graph.{row_of}
use Rattle.eh_cxa.specs.Words.{word, set_slot_words, wrote, call_result, object_slot}
use Rattle.eh_cxa.specs.Allocate.{allocate_of, free_of}
use Rattle.eh_cxa.specs.Throw.{throw_fault}
use Rattle.eh_cxa.specs.Catch.{begin_catch_of, end_catch_of}
use Rattle.eh_cxa.specs.Cleanup.{innermost_of, end_cleanup_of}
use Rattle.eh_cxa.specs.declared.globals.Globals.{Globals}
use Rattle.eh_cxa.specs.declared.globals.CleanupWords.{CleanupWords}
use Rattle.eh_cxa.specs.declared.globals.CxaFault.{CxaFault}
use Rattle.eh_phase.specs.declared.verdict.Thrown.{Thrown}
use Rattle.eh_phase.specs.declared.phase1.Barrier.{Barrier}
use Rattle.eh_phase.specs.declared.phase2.Entered.{Entered}
use Rattle.eh_phase.specs.declared.phase2.Entered.TheVariants as enters
use Rattle.eh_phase.specs.Phases.{phase2}
use Rattle.eh_phase.specs.Frames.{caller_at}
use Rattle.eh_phase.specs.Laws.{goal_of}
use Rattle.eh_trace.specs.declared.event.EventKind.{EventKind}
use Rattle.eh_trace.specs.declared.event.EventKind.TheVariants as kind
use Rattle.thumb_core.specs.Registers.{all_of}
use Rattle.thumb_core.specs.declared.regs.TheConstants.{SP}
use Rattle.thumb_core.specs.declared.regs.Regs.{Regs}
use Rattle.thumb_core.specs.declared.ends.End.{End}
use Rattle.eh_gates.specs.declared.state.Turned.TheVariants.{Went, Ended}
use Rattle.eh_gates.specs.declared.gates.TheConstants.{ALLOCATE_GATE, FREE_GATE, THROW_GATE, BEGIN_CATCH_GATE, END_CATCH_GATE, RETHROW_GATE, END_CLEANUP_GATE, UNEXPECTED_GATE, TERMINATE_GATE, UNCAUGHT_GATE}
use Rattle.eh_gates.specs.State.{State, Tables, Outcome, reg}
use Rattle.eh_gates.specs.CallGates.{allocate_outcome, free_outcome, begin_catch_outcome, end_catch_outcome}
use Rattle.eh_gates.specs.Landing.{landing_registers, enter_landing}
use Rattle.eh_gates.specs.Throwing.{frames_from, barrier_words, with_barrier, handler_object, throw_to, find_barrier, from_barrier, flies_to, flies, first_flight, throw_outcome, gate_thrown, block_thrown, second_flight, rethrow_outcome}
use Rattle.eh_gates.specs.Resuming.{continue_flight, resumes_in, resumes}
use Rattle.eh_gates.specs.Gates.{gate_of}
use Rattle.eh_gate_laws.specs.Landings.{AreLanded, LandingsAreAsTold, Lands, ThrowsLand, GoesAfter, GatesGoAfter}

-- ---- registers

-- what holds of 1 to 3, and of 4 to 11, holds of each of them
up_to_three : (P : ℕ → Type 0) → P 1 → P 2 → P 3 → (k : ℕ) → 1 ≤ k → k ≤ 3 → P k
up_to_three P a b c zero low high = absurd (omega arith)
up_to_three P a b c (suc zero) low high = a
up_to_three P a b c (suc (suc zero)) low high = b
up_to_three P a b c (suc (suc (suc zero))) low high = c
up_to_three P a b c (suc (suc (suc (suc k)))) low high = absurd (omega arith)

up_to_eleven : (P : ℕ → Type 0) → P 4 → P 5 → P 6 → P 7 → P 8 → P 9 → P 10 → P 11 → (k : ℕ) → 4 ≤ k → k ≤ 11 → P k
up_to_eleven P a b c d e f g h zero low high = absurd (omega arith)
up_to_eleven P a b c d e f g h (suc zero) low high = absurd (omega arith)
up_to_eleven P a b c d e f g h (suc (suc zero)) low high = absurd (omega arith)
up_to_eleven P a b c d e f g h (suc (suc (suc zero))) low high = absurd (omega arith)
up_to_eleven P a b c d e f g h (suc (suc (suc (suc zero)))) low high = a
up_to_eleven P a b c d e f g h (suc (suc (suc (suc (suc zero))))) low high = b
up_to_eleven P a b c d e f g h (suc (suc (suc (suc (suc (suc zero)))))) low high = c
up_to_eleven P a b c d e f g h (suc (suc (suc (suc (suc (suc (suc zero))))))) low high = d
up_to_eleven P a b c d e f g h (suc (suc (suc (suc (suc (suc (suc (suc zero)))))))) low high = e
up_to_eleven P a b c d e f g h (suc (suc (suc (suc (suc (suc (suc (suc (suc zero))))))))) low high = f
up_to_eleven P a b c d e f g h (suc (suc (suc (suc (suc (suc (suc (suc (suc (suc zero)))))))))) low high = g
up_to_eleven P a b c d e f g h (suc (suc (suc (suc (suc (suc (suc (suc (suc (suc (suc zero))))))))))) low high = h
up_to_eleven P a b c d e f g h (suc (suc (suc (suc (suc (suc (suc (suc (suc (suc (suc (suc k)))))))))))) low high = absurd (omega arith)

pub landed_as_told : (old : Regs) (frame : List ℕ) (pad answer : ℕ) → AreLanded old frame pad answer (landing_registers old frame pad answer)
landed_as_told old frame pad answer =
    let new = landing_registers old frame pad answer in
    record {
      count = refl;
      r0 = refl;
      saved = up_to_eleven (λ k. slice_index new.r k ≡ slice_index frame k) refl refl refl refl refl refl refl refl;
      sp = refl;
      low_zeros = up_to_three (λ k. slice_index new.r k ≡ 0) refl refl refl;
      r12 = refl;
      lr = refl;
      pc = omega arith;
      flags = record { n = refl; z = refl; c = refl; v = refl };
    }

pub landings : LandingsAreAsTold
landings s block object vrs pad = record {
  cleanup = λ next site. landed_as_told s.regs vrs.r pad 0;
  catch = landed_as_told s.regs vrs.r pad block;
  spec = landed_as_told s.regs vrs.r pad block;
}

-- ---- throws, rethrows and ends of cleanups

abbrev LandsIn : State → Outcome → Type 0
LandsIn s (Went, t) = Lands s t
LandsIn s (Ended end, t) = Unit {0}

either : {A : Type 0} (P : A → Type 0) (b : Bool) (x y : A) → P x → P y → P (cond b x y)
either P true x y px py = px
either P false x y px py = py

in_frame : (old : Regs) (s t : State) (frame : List ℕ) (pad answer : ℕ) → old ≡ s.regs → t.regs ≡ landing_registers old frame pad answer → Lands s t
in_frame old s t frame pad answer e f = record {
  frame = frame;
  pad = pad;
  answer = answer;
  landed = subst (λ (x : Regs). AreLanded x frame pad answer t.regs) e (subst (λ (x : Regs). AreLanded old frame pad answer x) (sym f) (landed_as_told old frame pad answer));
}

enters_land : (s u : State) (block object : ℕ) (e : Entered) → u.regs ≡ s.regs → LandsIn s (enter_landing u block object e)
enters_land s u block object (enters.Cleanup vrs pad next site) q = in_frame u.regs s _ vrs.r pad 0 q refl
enters_land s u block object (enters.Catch vrs pad) q = in_frame u.regs s _ vrs.r pad block q refl
enters_land s u block object (enters.Spec vrs pad) q = in_frame u.regs s _ vrs.r pad block q refl
enters_land s u block object enters.Unexpected q = tt
enters_land s u block object (enters.Terminate why) q = tt

flights_land : (g : Tables) (s t : State) (site block : ℕ) (b : Barrier) → t.regs ≡ s.regs → LandsIn s (throw_to g t site block b)
unfolding throw_to
flights_land g s t site block b q =
    let u = with_barrier t block (barrier_words block b) in
    enters_land s u block (handler_object block b.hit) (phase2 (goal_of b) 0 (frames_from g u None site)) q

flies_land : (g : Tables) (s t : State) (given : ℕ) (b : Barrier) (r : Result ℕ CxaFault) → t.regs ≡ s.regs → LandsIn s (flies_to g t given b r)
flies_land g s t given b (Ok block) q = flights_land g s t t.regs.pc block b q
flies_land g s t given b (Err why) q = tt

from_lands : (further : Barrier → State → Outcome) (s : State) (p : Result Barrier End × State) → p.1.regs ≡ s.regs
    → ((b : Barrier) (t : State) → t.regs ≡ s.regs → LandsIn s (further b t)) → LandsIn s (from_barrier further p)
from_lands further s (Ok b, t) q f = f b t q
from_lands further s (Err end, t) q f = tt

sought_regs : (g : Tables) (s : State) (what : EventKind) (thrown : Thrown) → (find_barrier g s what thrown).1.regs ≡ s.regs
unfolding find_barrier
sought_regs g s what thrown = either (λ (p : Result Barrier End × State). p.1.regs ≡ s.regs) (is_some (row_of g.types thrown.ty)) _ _ refl refl

throw_lands : (g : Tables) (s : State) (r : Result (Unit {0}) CxaFault) → LandsIn s (throw_outcome g s r)
throw_lands g s (Err why) = tt
throw_lands g s (Ok may) =
    from_lands (λ b t. flies g t (reg s 0) (first_flight t) b) s (find_barrier g s kind.Throw (gate_thrown s)) (sought_regs g s kind.Throw (gate_thrown s))
    (λ b t q. flies_land g s (record t { globals = (first_flight t).globals; memory = set_slot_words (first_flight t).writes t.memory }) (reg s 0) b (first_flight t).answer q)

rethrow_lands : (g : Tables) (s : State) (r : Result ℕ CxaFault) → LandsIn s (rethrow_outcome g s r)
rethrow_lands g s (Err why) = tt
rethrow_lands g s (Ok block) =
    from_lands (λ b t. flies g t block (second_flight t) b) s (find_barrier g s kind.Rethrow (block_thrown s block)) (sought_regs g s kind.Rethrow (block_thrown s block))
    (λ b t q. flies_land g s (record t { globals = (second_flight t).globals; memory = set_slot_words (second_flight t).writes t.memory }) block b (second_flight t).answer q)

goes_land : (g : Tables) (s t : State) (vrs : Vrs) (r : Result (ℕ × CleanupWords) CxaFault) → t.regs ≡ s.regs → LandsIn s (continue_flight g t vrs r)
goes_land g s t vrs (Ok (block, w)) q = enters_land s t block _ _ q
goes_land g s t vrs (Err why) q = tt

resumes_in_land : (g : Tables) (s : State) (o : Option Vrs) → LandsIn s (resumes_in g s o)
resumes_in_land g s None = tt
resumes_in_land g s (Some vrs) =
    let d = end_cleanup_of (word s.memory) s.globals (slice_index vrs.r SP) in
    goes_land g s (record s { globals = d.globals; memory = set_slot_words d.writes s.memory }) vrs d.answer refl

resumes_land : (g : Tables) (s : State) (o : Option ℕ) → LandsIn s (resumes g s o)
resumes_land g s None = tt
resumes_land g s (Some sp) = resumes_in_land g s (caller_at g.image s.memory.segments s.regs.pc (all_of s.regs))

at_throw : (g : Tables) (next : ℕ) (s : State) → LandsIn s (gate_of g 18 next s)
unfolding gate_of
at_throw g next s = throw_lands g s (throw_fault (word s.memory) (object_slot (reg s 0)))

at_rethrow : (g : Tables) (next : ℕ) (s : State) → LandsIn s (gate_of g 21 next s)
unfolding gate_of
at_rethrow g next s = rethrow_lands g s (second_flight s).answer

at_end : (g : Tables) (next : ℕ) (s : State) → LandsIn s (gate_of g 22 next s)
unfolding gate_of
at_end g next s = resumes_land g s (innermost_of (word s.memory) s.globals)

pub throws_land : ThrowsLand
throws_land g number next s t which e = subst (λ (o : Outcome). LandsIn s o) e (by which)
  where
    to : (n : ℕ) → number ≡ n → LandsIn s (gate_of g n next s) → LandsIn s (gate_of g number next s)
    to n q h = subst (λ (k : ℕ). LandsIn s (gate_of g k next s)) (sym q) h

    by : (number ≡ 18) ⊎ ((number ≡ 21) ⊎ (number ≡ 22)) → LandsIn s (gate_of g number next s)
    by (inl q) = to 18 q (at_throw g next s)
    by (inr (inl q)) = to 21 q (at_rethrow g next s)
    by (inr (inr q)) = to 22 q (at_end g next s)

-- ---- gates that go on after their instruction

abbrev pub AfterIn : ℕ → State → Outcome → Type 0
AfterIn next s (Went, t) = GoesAfter next s t
AfterIn next s (Ended end, t) = Unit {0}

unless : {A : Type 0} (P : A → Type 0) (b : Bool) (x y : A) → (b ≡ true → ⊥) → P y → P (cond b x y)
unless P true x y never py = absurd (never refl)
unless P false x y never py = py

is_number : (number gate : ℕ) → number ≢ gate → (number == gate) ≡ true → ⊥
is_number number gate never e = never (eqb-true number gate e)

other_register : (r : List ℕ) (x k : ℕ) → 2 ≤ k → slice_index (slice_set r 0 x) k ≡ slice_index r k
other_register r x k h = get_or-set_other r 0 k x 0 (λ e. absurd (omega arith))

other_registers : (r : List ℕ) (x y k : ℕ) → 2 ≤ k → slice_index (slice_set (slice_set r 0 x) 1 y) k ≡ slice_index r k
other_registers r x y k h = get_or-set_other (slice_set r 0 x) 1 k y 0 (λ e. absurd (omega arith)) ∙ other_register r x k h

allocates : (next : ℕ) (s : State) (p : Result ℕ CxaFault × Memory) → AfterIn next s (allocate_outcome next s p)
allocates next s (Ok x, m) = record { pc = refl; others = λ k h. other_register s.regs.r x k h; flags = record { n = refl; z = refl; c = refl; v = refl } }
allocates next s (Err why, m) = tt

frees : (next : ℕ) (s : State) (p : Result (Unit {0}) CxaFault × Memory) → AfterIn next s (free_outcome next s p)
frees next s (Ok x, m) = record { pc = refl; others = λ k h. refl; flags = record { n = refl; z = refl; c = refl; v = refl } }
frees next s (Err why, m) = tt

catches : (next : ℕ) (s : State) (p : Result ℕ CxaFault × Globals × Memory) → AfterIn next s (begin_catch_outcome next s p)
catches next s (Ok x, g, m) = record { pc = refl; others = λ k h. other_register s.regs.r x k h; flags = record { n = refl; z = refl; c = refl; v = refl } }
catches next s (Err why, g, m) = tt

drops : (next : ℕ) (s : State) (p : Result (ℕ × ℕ) CxaFault × Globals × Memory) → AfterIn next s (end_catch_outcome next s p)
drops next s (Ok (x, y), g, m) = record { pc = refl; others = λ k h. other_registers s.regs.r x y k h; flags = record { n = refl; z = refl; c = refl; v = refl } }
drops next s (Err why, g, m) = tt

pub after_in : (g : Tables) (number next : ℕ) (s : State) → number ≢ 18 → number ≢ 21 → number ≢ 22 → AfterIn next s (gate_of g number next s)
unfolding gate_of
after_in g number next s no_throw no_rethrow no_end =
    let P : Outcome → Type 0 = λ o. AfterIn next s o in
    either P (number == ALLOCATE_GATE) _ _ (allocates next s (wrote (allocate_of (word s.memory) (reg s 0)) s.memory)) (
    either P (number == FREE_GATE) _ _ (frees next s (wrote (free_of (word s.memory) (object_slot (reg s 0))) s.memory)) (
    unless P (number == THROW_GATE) _ _ (is_number number 18 no_throw) (
    either P (number == BEGIN_CATCH_GATE) _ _ (catches next s (call_result (begin_catch_of (word s.memory) s.globals (reg s 0)) s.memory)) (
    either P (number == END_CATCH_GATE) _ _ (drops next s (call_result (end_catch_of (word s.memory) s.globals) s.memory)) (
    unless P (number == RETHROW_GATE) _ _ (is_number number 21 no_rethrow) (
    unless P (number == END_CLEANUP_GATE) _ _ (is_number number 22 no_end) (
    either P (number == UNEXPECTED_GATE) _ _ tt (
    either P (number == TERMINATE_GATE) _ _ tt (
    either P (number == UNCAUGHT_GATE) _ _
    (record { pc = refl; others = λ k h. other_register s.regs.r s.globals.uncaught k h; flags = record { n = refl; z = refl; c = refl; v = refl } }) tt)))))))))

pub go_after : GatesGoAfter
go_after g number next s t no_throw no_rethrow no_end e = subst (λ (o : Outcome). AfterIn next s o) e (after_in g number next s no_throw no_rethrow no_end)
