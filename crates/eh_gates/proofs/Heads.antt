-- The heads of both chains stay heads.
use Rattle.std.specs.Prelude.{IsSome, is_some}
use Rattle.std.proofs.Common.{◌≡◌, ℕ, ◌==◌, ◌⊎◌, inl, inr, Bool, true, false, cond, List, Option, Some, None, Result, Ok, Err, slice_index, refl, sym, ap, subst}
use Rattle.eh_bus.specs.Memory.{Memory}
use Rattle.eh_bytecode.specs.declared.frame.Vrs.{Vrs}
use Rattle.eh_types.specs.Graph.{row_of}
use Rattle.eh_cxa.specs.States.{state_of_word, is_fresh, is_caught}
use Rattle.eh_cxa.specs.Words.{Pool, word, set_slot_words, wrote, call_result, object_slot, block_slot, Done, chain_word, word_if_block}
use Rattle.eh_cxa.specs.Allocate.{allocate_of, free_of}
use Rattle.eh_cxa.specs.Throw.{Throw, start_throw_of, throw_by, throw_fault, barrier_of}
use Rattle.eh_cxa.specs.Catch.{begin_catch_of, catch_in, catch_at, catch_by, catch_fault, end_catch_of, end_catch_at, end_catch_by, Fall, stays, falls, ends, leaves, fall, rethrow_of, rethrow_at, rethrow_by}
use Rattle.eh_cxa.specs.States.{is_landed}
use Rattle.eh_cxa.specs.Cleanup.{innermost_of, begin_cleanup_of, cleanup_at, end_cleanup_of, end_cleanup_at, end_cleanup_by}
use Rattle.eh_cxa.specs.declared.layout.TheConstants.{STATE, COUNT, CLEANUP_SP, NEXT_CAUGHT, NEXT_CLEANUP}
use Rattle.eh_cxa.specs.declared.globals.Globals.{Globals}
use Rattle.eh_cxa.specs.declared.globals.CleanupWords.{CleanupWords}
use Rattle.eh_cxa.specs.declared.globals.CxaFault.{CxaFault}
use Rattle.eh_phase.specs.declared.phase1.Barrier.{Barrier}
use Rattle.eh_phase.specs.declared.phase2.Entered.{Entered}
use Rattle.eh_phase.specs.declared.phase2.Entered.TheVariants as enters
use Rattle.eh_phase.specs.declared.verdict.Thrown.{Thrown}
use Rattle.eh_phase.specs.Phases.{phase2}
use Rattle.eh_phase.specs.Frames.{caller_at}
use Rattle.eh_phase.specs.Laws.{goal_of}
use Rattle.eh_trace.specs.declared.event.EventKind.{EventKind}
use Rattle.eh_trace.specs.declared.event.EventKind.TheVariants as kind
use Rattle.thumb_core.specs.Registers.{all_of}
use Rattle.thumb_core.specs.declared.regs.TheConstants.{SP}
use Rattle.thumb_core.specs.declared.ends.End.{End}
use Rattle.eh_gates.specs.declared.gates.TheConstants.{ALLOCATE_GATE, FREE_GATE, THROW_GATE, BEGIN_CATCH_GATE, END_CATCH_GATE, RETHROW_GATE, END_CLEANUP_GATE, UNEXPECTED_GATE, TERMINATE_GATE, UNCAUGHT_GATE}
use Rattle.eh_gates.specs.State.{State, Tables, Outcome, reg}
use Rattle.eh_gates.specs.CallGates.{allocate_outcome, free_outcome, begin_catch_outcome, end_catch_outcome}
use Rattle.eh_gates.specs.Landing.{enter_landing, words_of}
use Rattle.eh_gates.specs.Throwing.{frames_from, barrier_words, with_barrier, handler_object, throw_to, find_barrier, from_barrier, flies_to, flies, first_flight, throw_outcome, gate_thrown, block_thrown, second_flight, rethrow_outcome}
use Rattle.eh_gates.specs.Resuming.{continue_flight, resumes_in, resumes}
use Rattle.eh_gates.specs.Gates.{gate_of}
use Rattle.eh_gates.specs.Laws.{IsHead, AreHeads}

block_head : (a s : ℕ) → block_slot a ≡ Some s → IsHead a
block_head a s e = inr (subst (λ (o : Option ℕ). IsSome o) (sym e) refl)

chained_head : (a : ℕ) → IsHead (chain_word a)
chained_head a = go (block_slot a) refl
  where
    go : (o : Option ℕ) → block_slot a ≡ o → IsHead (word_if_block a o)
    go None e = inl refl
    go (Some s) e = block_head a s e

either : {A : Type 0} (P : A → Type 0) (b : Bool) (x y : A) → P x → P y → P (cond b x y)
either P true x y px py = px
either P false x y px py = py

allocates : (next : ℕ) (s : State) (p : Result ℕ CxaFault × Memory) → AreHeads s.globals → AreHeads (allocate_outcome next s p).1.globals
allocates next s (Ok x, m) h = h
allocates next s (Err why, m) h = h

frees : (next : ℕ) (s : State) (p : Result (Unit {0}) CxaFault × Memory) → AreHeads s.globals → AreHeads (free_outcome next s p).1.globals
frees next s (Ok x, m) h = h
frees next s (Err why, m) h = h

catches : (next : ℕ) (s : State) (r : Result ℕ CxaFault) (g : Globals) (m : Memory) → AreHeads g → AreHeads s.globals → AreHeads (begin_catch_outcome next s (r, g, m)).1.globals
catches next s (Ok x) g m k h = k
catches next s (Err why) g m k h = h

drops : (next : ℕ) (s : State) (r : Result (ℕ × ℕ) CxaFault) (g : Globals) (m : Memory) → AreHeads g → AreHeads s.globals → AreHeads (end_catch_outcome next s (r, g, m)).1.globals
drops next s (Ok (x, y)) g m k h = k
drops next s (Err why) g m k h = h

-- ---- what the calls leave

catch_by_heads : (b : Bool) (w : Pool) (g : Globals) (ucb s : ℕ) → block_slot ucb ≡ Some s → AreHeads g → AreHeads (catch_by b w g ucb s).globals
catch_by_heads true w g ucb s e h = record { caught = block_head ucb s e; cleanup = h.cleanup }
catch_by_heads false w g ucb s e h = record { caught = h.caught; cleanup = h.cleanup }

catch_at_heads : (w : Pool) (g : Globals) (ucb s : ℕ) (o : Option CxaFault) → block_slot ucb ≡ Some s → AreHeads g → AreHeads (catch_at w g ucb s o).globals
catch_at_heads w g ucb s (Some fault) e h = h
catch_at_heads w g ucb s None e h = catch_by_heads (w s COUNT == 0) w g ucb s e h

catch_in_heads : (w : Pool) (g : Globals) (ucb : ℕ) (o : Option ℕ) → block_slot ucb ≡ o → AreHeads g → AreHeads (catch_in w g ucb o).globals
catch_in_heads w g ucb None e h = h
catch_in_heads w g ucb (Some s) e h = catch_at_heads w g ucb s (catch_fault (state_of_word (w s STATE)) (w s COUNT == 0) (g.caught == ucb)) e h

end_by_heads : (f : Fall ℕ) (w : Pool) (g : Globals) (s : ℕ) → AreHeads g → AreHeads (end_catch_by f w g s).globals
end_by_heads stays w g s h = h
end_by_heads (falls c) w g s h = h
end_by_heads ends w g s h = record { caught = chained_head (w s NEXT_CAUGHT); cleanup = h.cleanup }
end_by_heads leaves w g s h = record { caught = chained_head (w s NEXT_CAUGHT); cleanup = h.cleanup }

end_at_heads : (w : Pool) (g : Globals) (o : Option ℕ) → AreHeads g → AreHeads (end_catch_at w g o).globals
end_at_heads w g None h = h
end_at_heads w g (Some s) h = end_by_heads (fall (w s COUNT)) w g s h

throw_by_heads : (b : Bool) (g : Globals) (s : ℕ) (t : Throw) → AreHeads g → AreHeads (throw_by b g s t).globals
throw_by_heads true g s t h = record { caught = h.caught; cleanup = h.cleanup }
throw_by_heads false g s t h = h

throw_heads : (w : Pool) (g : Globals) (o : Option ℕ) (t : Throw) → AreHeads g → AreHeads (start_throw_of w g o t).globals
throw_heads w g None t h = h
throw_heads w g (Some s) t h = throw_by_heads (is_fresh (state_of_word (w s STATE))) g s t h

rethrow_by_heads : (b : Bool) (w : Pool) (g : Globals) (s : ℕ) → AreHeads g → AreHeads (rethrow_by b w g s).globals
rethrow_by_heads true w g s h = record { caught = h.caught; cleanup = h.cleanup }
rethrow_by_heads false w g s h = h

rethrow_heads : (w : Pool) (g : Globals) (o : Option ℕ) → AreHeads g → AreHeads (rethrow_at w g o).globals
rethrow_heads w g None h = h
rethrow_heads w g (Some s) h = rethrow_by_heads (is_caught (state_of_word (w s STATE))) w g s h

begin_heads : (g : Globals) (ucb : ℕ) (c : CleanupWords) (o : Option ℕ) → block_slot ucb ≡ o → AreHeads g → AreHeads (cleanup_at g ucb c o).globals
begin_heads g ucb c None e h = h
begin_heads g ucb c (Some s) e h = record { caught = h.caught; cleanup = block_head ucb s e }

cleanup_by_heads : (b : Bool) (w : Pool) (g : Globals) (s : ℕ) → AreHeads g → AreHeads (end_cleanup_by b w g s).globals
cleanup_by_heads true w g s h = record { caught = h.caught; cleanup = chained_head (w s NEXT_CLEANUP) }
cleanup_by_heads false w g s h = h

cleanup_heads : (w : Pool) (g : Globals) (sp : ℕ) (o : Option ℕ) → AreHeads g → AreHeads (end_cleanup_at w g sp o).globals
cleanup_heads w g sp None h = h
cleanup_heads w g sp (Some s) h = cleanup_by_heads (w s CLEANUP_SP == sp) w g s h

-- ---- landings and throws

lands : (s : State) (block object : ℕ) (e : Entered) → AreHeads s.globals → AreHeads (enter_landing s block object e).1.globals
lands s block object (enters.Cleanup vrs pad next site) h = begin_heads s.globals block (words_of vrs.r next site) (block_slot block) refl h
lands s block object (enters.Catch vrs pad) h = h
lands s block object (enters.Spec vrs pad) h = h
lands s block object enters.Unexpected h = h
lands s block object (enters.Terminate why) h = h

throws_to : (g : Tables) (s : State) (site block : ℕ) (b : Barrier) → AreHeads s.globals → AreHeads (throw_to g s site block b).1.globals
unfolding throw_to
throws_to g s site block b h =
    let u = with_barrier s block (barrier_words block b) in
    lands u block (handler_object block b.hit) (phase2 (goal_of b) 0 (frames_from g u None site)) h

flies_heads : (g : Tables) (s : State) (given : ℕ) (b : Barrier) (r : Result ℕ CxaFault) → AreHeads s.globals → AreHeads (flies_to g s given b r).1.globals
flies_heads g s given b (Ok block) h = throws_to g s s.regs.pc block b h
flies_heads g s given b (Err why) h = h

from_heads : (further : Barrier → State → Outcome) (p : Result Barrier End × State) → AreHeads p.1.globals → ((b : Barrier) (t : State) → AreHeads t.globals → AreHeads (further b t).1.globals)
    → AreHeads (from_barrier further p).1.globals
from_heads further (Ok b, t) h f = f b t h
from_heads further (Err end, t) h f = h

sought_heads : (g : Tables) (s : State) (what : EventKind) (thrown : Thrown) → AreHeads s.globals → AreHeads (find_barrier g s what thrown).1.globals
unfolding find_barrier
sought_heads g s what thrown h = either (λ (p : Result Barrier End × State). AreHeads p.1.globals) (is_some (row_of g.types thrown.ty)) _ _ h h

throws_heads : (g : Tables) (s : State) (r : Result (Unit {0}) CxaFault) → AreHeads s.globals → AreHeads (throw_outcome g s r).1.globals
throws_heads g s (Err why) h = h
throws_heads g s (Ok may) h =
    from_heads (λ b t. flies g t (reg s 0) (first_flight t) b) (find_barrier g s kind.Throw (gate_thrown s)) (sought_heads g s kind.Throw (gate_thrown s) h)
    (λ b t k. flies_heads g (record t { globals = (first_flight t).globals; memory = set_slot_words (first_flight t).writes t.memory }) (reg s 0) b (first_flight t).answer
    (throw_heads (word t.memory) t.globals (object_slot (reg t 0)) _ k))

rethrows_heads : (g : Tables) (s : State) (r : Result ℕ CxaFault) → AreHeads s.globals → AreHeads (rethrow_outcome g s r).1.globals
rethrows_heads g s (Err why) h = h
rethrows_heads g s (Ok block) h =
    from_heads (λ b t. flies g t block (second_flight t) b) (find_barrier g s kind.Rethrow (block_thrown s block)) (sought_heads g s kind.Rethrow (block_thrown s block) h)
    (λ b t k. flies_heads g (record t { globals = (second_flight t).globals; memory = set_slot_words (second_flight t).writes t.memory }) block b (second_flight t).answer
    (rethrow_heads (word t.memory) t.globals (block_slot t.globals.caught) k))

goes_heads : (g : Tables) (s : State) (vrs : Vrs) (r : Result (ℕ × CleanupWords) CxaFault) → AreHeads s.globals → AreHeads (continue_flight g s vrs r).1.globals
goes_heads g s vrs (Ok (block, w)) h = lands s block _ _ h
goes_heads g s vrs (Err why) h = h

resumes_in_heads : (g : Tables) (s : State) (o : Option Vrs) → AreHeads s.globals → AreHeads (resumes_in g s o).1.globals
resumes_in_heads g s None h = h
resumes_in_heads g s (Some vrs) h =
    let d = end_cleanup_of (word s.memory) s.globals (slice_index vrs.r SP) in
    goes_heads g (record s { globals = d.globals; memory = set_slot_words d.writes s.memory }) vrs d.answer
    (cleanup_heads (word s.memory) s.globals (slice_index vrs.r SP) (block_slot s.globals.cleanup) h)

resumes_heads : (g : Tables) (s : State) (o : Option ℕ) → AreHeads s.globals → AreHeads (resumes g s o).1.globals
resumes_heads g s None h = h
resumes_heads g s (Some sp) h = resumes_in_heads g s (caller_at g.image s.memory.segments s.regs.pc (all_of s.regs)) h

pub gate_heads : (g : Tables) (number next : ℕ) (s : State) → AreHeads s.globals → AreHeads (gate_of g number next s).1.globals
unfolding gate_of
gate_heads g number next s h =
    let P : Outcome → Type 0 = λ o. AreHeads o.1.globals in
    let c = begin_catch_of (word s.memory) s.globals (reg s 0) in
    let d = end_catch_of (word s.memory) s.globals in
    either P (number == ALLOCATE_GATE) _ _ (allocates next s (wrote (allocate_of (word s.memory) (reg s 0)) s.memory) h) (
    either P (number == FREE_GATE) _ _ (frees next s (wrote (free_of (word s.memory) (object_slot (reg s 0))) s.memory) h) (
    either P (number == THROW_GATE) _ _ (throws_heads g s (throw_fault (word s.memory) (object_slot (reg s 0))) h) (
    either P (number == BEGIN_CATCH_GATE) _ _
    (catches next s c.answer c.globals (set_slot_words c.writes s.memory) (catch_in_heads (word s.memory) s.globals (reg s 0) (block_slot (reg s 0)) refl h) h) (
    either P (number == END_CATCH_GATE) _ _
    (drops next s d.answer d.globals (set_slot_words d.writes s.memory) (end_at_heads (word s.memory) s.globals (block_slot s.globals.caught) h) h) (
    either P (number == RETHROW_GATE) _ _ (rethrows_heads g s (second_flight s).answer h) (
    either P (number == END_CLEANUP_GATE) _ _ (resumes_heads g s (innermost_of (word s.memory) s.globals) h) (
    either P (number == UNEXPECTED_GATE) _ _ h (either P (number == TERMINATE_GATE) _ _ h (either P (number == UNCAUGHT_GATE) _ _ h h)))))))))
