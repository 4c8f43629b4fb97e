-- No gate of exceptions ends a run as a fault of the outside.
use Rattle.std.proofs.Common.{◌≡◌, ℕ, ◌==◌, Bool, true, false, cond, Option, Some, None, Result, Ok, Err, slice_index, refl, subst}
use Rattle.std.specs.Prelude.{is_some}
use Rattle.eh_bus.specs.Memory.{Memory}
use Rattle.eh_bytecode.specs.declared.frame.Vrs.{Vrs}
use Rattle.eh_types.specs.Graph.{row_of}
use Rattle.eh_cxa.specs.Words.{word, set_slot_words, wrote, call_result, object_slot, block_slot, Done}
use Rattle.eh_cxa.specs.Allocate.{allocate_of, free_of}
use Rattle.eh_cxa.specs.Throw.{throw_fault, barrier_of}
use Rattle.eh_cxa.specs.Catch.{begin_catch_of, end_catch_of}
use Rattle.eh_cxa.specs.Cleanup.{innermost_of, end_cleanup_of}
use Rattle.eh_cxa.specs.declared.globals.Globals.{Globals}
use Rattle.eh_cxa.specs.declared.globals.CleanupWords.{CleanupWords}
use Rattle.eh_cxa.specs.declared.globals.CxaFault.{CxaFault}
use Rattle.eh_cxa.specs.declared.globals.CxaFault.TheVariants as fault
use Rattle.eh_phase.specs.declared.verdict.Thrown.{Thrown}
use Rattle.eh_phase.specs.declared.phase1.Barrier.{Barrier}
use Rattle.eh_phase.specs.declared.phase1.Found.{Found}
use Rattle.eh_phase.specs.declared.phase1.Found.TheVariants as found
use Rattle.eh_phase.specs.declared.phase2.Entered.{Entered}
use Rattle.eh_phase.specs.declared.phase2.Entered.TheVariants as enters
use Rattle.eh_phase.specs.Phases.{phase2}
use Rattle.eh_phase.specs.Frames.{frames_of, caller_at}
use Rattle.eh_phase.specs.Calls.{stack_of}
use Rattle.eh_phase.specs.Laws.{goal_of}
use Rattle.eh_trace.specs.declared.event.EventKind.{EventKind}
use Rattle.eh_trace.specs.declared.event.EventKind.TheVariants as kind
use Rattle.eh_phase.specs.run_gates.Ends.{is_fault}
use Rattle.thumb_core.specs.Registers.{all_of}
use Rattle.thumb_core.specs.declared.regs.TheConstants.{SP}
use Rattle.thumb_core.specs.declared.ends.End.{End}
use Rattle.eh_gates.specs.declared.state.Turned.{Turned}
use Rattle.eh_gates.specs.declared.state.Turned.TheVariants.{Went, Ended}
use Rattle.eh_gates.specs.declared.gates.TheConstants.{ALLOCATE_GATE, FREE_GATE, THROW_GATE, BEGIN_CATCH_GATE, END_CATCH_GATE, RETHROW_GATE, END_CLEANUP_GATE, UNEXPECTED_GATE, TERMINATE_GATE, UNCAUGHT_GATE}
use Rattle.eh_gates.specs.State.{State, Tables, Outcome, reg}
use Rattle.eh_gates.specs.CallGates.{fault_end, refusal_outcome, allocate_outcome, free_outcome, begin_catch_outcome, end_catch_outcome}
use Rattle.eh_gates.specs.Landing.{enter_landing}
use Rattle.eh_gates.specs.Throwing.{frames_from, barrier_words, with_barrier, handler_object, throw_to, barrier_in, phase1_result, find_barrier, from_barrier, flies_to, flies, first_flight, throw_outcome, throw_gate, gate_thrown, rethrow_end, block_thrown, second_flight, rethrow_outcome, rethrow_gate}
use Rattle.eh_gates.specs.Resuming.{goal_in, continue_flight, continue_flight_to, ends_cleanup, resumes_in, resumes}
use Rattle.eh_gates.specs.Gates.{gate_of}

abbrev pub IsHonest : Turned → Type 0
IsHonest t = (end : End) → t ≡ Ended end → is_fault end ≡ false

went : IsHonest Went
went end e = absurd (cc)

ended : (end : End) → is_fault end ≡ false → IsHonest (Ended end)
ended end fine other e = let same : end ≡ other = cc in subst (λ (x : End). is_fault x ≡ false) same fine

fault_fine : (why : CxaFault) (given pc : ℕ) → is_fault (fault_end why given pc) ≡ false
fault_fine fault.PoolFull given pc = refl
fault_fine fault.TooBig given pc = refl
fault_fine fault.BadObject given pc = refl
fault_fine fault.BadUcb given pc = refl
fault_fine fault.CaughtOrder given pc = refl
fault_fine fault.NoCaught given pc = refl
fault_fine fault.NoCleanup given pc = refl
fault_fine fault.CleanupElsewhere given pc = refl

rethrow_fine : (why : CxaFault) (given pc : ℕ) → is_fault (rethrow_end why given pc) ≡ false
rethrow_fine fault.PoolFull given pc = refl
rethrow_fine fault.TooBig given pc = refl
rethrow_fine fault.BadObject given pc = refl
rethrow_fine fault.BadUcb given pc = refl
rethrow_fine fault.CaughtOrder given pc = refl
rethrow_fine fault.NoCaught given pc = refl
rethrow_fine fault.NoCleanup given pc = refl
rethrow_fine fault.CleanupElsewhere given pc = refl

refusal : (why : CxaFault) (given : ℕ) (s : State) → IsHonest (refusal_outcome why given s).0
refusal why given s = ended (fault_end why given s.regs.pc) (fault_fine why given s.regs.pc)

allocates : (next : ℕ) (s : State) (p : Result ℕ CxaFault × Memory) → IsHonest (allocate_outcome next s p).0
allocates next s (Ok x, m) = went
allocates next s (Err why, m) = refusal why (reg s 0) s

frees : (next : ℕ) (s : State) (p : Result (Unit {0}) CxaFault × Memory) → IsHonest (free_outcome next s p).0
frees next s (Ok x, m) = went
frees next s (Err why, m) = refusal why (reg s 0) s

catches : (next : ℕ) (s : State) (p : Result ℕ CxaFault × Globals × Memory) → IsHonest (begin_catch_outcome next s p).0
catches next s (Ok x, g, m) = went
catches next s (Err why, g, m) = refusal why (reg s 0) s

drops : (next : ℕ) (s : State) (p : Result (ℕ × ℕ) CxaFault × Globals × Memory) → IsHonest (end_catch_outcome next s p).0
drops next s (Ok (x, y), g, m) = went
drops next s (Err why, g, m) = refusal why 0 s

lands_honest : (s : State) (block object : ℕ) (e : Entered) → IsHonest (enter_landing s block object e).0
lands_honest s block object (enters.Cleanup vrs pad next site) = went
lands_honest s block object (enters.Catch vrs pad) = went
lands_honest s block object (enters.Spec vrs pad) = went
lands_honest s block object enters.Unexpected = ended _ refl
lands_honest s block object (enters.Terminate why) = ended _ refl

throw_to_honest : (g : Tables) (s : State) (site block : ℕ) (b : Barrier) → IsHonest (throw_to g s site block b).0
unfolding throw_to
throw_to_honest g s site block b =
    let t = with_barrier s block (barrier_words block b) in
    lands_honest t block (handler_object block b.hit) (phase2 (goal_of b) 0 (frames_from g t None site))

abbrev IsFine : Result Barrier End → Type 0
IsFine r = (end : End) → r ≡ Err end → is_fault end ≡ false

fine_ok : (b : Barrier) → IsFine (Ok b)
fine_ok b end e = absurd (cc)

fine_err : (end : End) → is_fault end ≡ false → IsFine (Err end)
fine_err end fine other e = let same : end ≡ other = cc in subst (λ (x : End). is_fault x ≡ false) same fine

found_fine : (pc : ℕ) (f : Found) → IsFine (barrier_in pc f)
found_fine pc (found.Barrier b) = fine_ok b
found_fine pc (found.Terminate why) = fine_err _ refl
found_fine pc (found.ObjectRead a) = fine_err _ refl

either : {A : Type 0} (P : A → Type 0) (b : Bool) (x y : A) → P x → P y → P (cond b x y)
either P true x y px py = px
either P false x y px py = py

sought_fine : (g : Tables) (s : State) (what : EventKind) (thrown : Thrown) → IsFine (find_barrier g s what thrown).0
unfolding find_barrier
sought_fine g s what thrown =
    either (λ (p : Result Barrier End × State). IsFine p.0) (is_some (row_of g.types thrown.ty)) _ _ (found_fine s.regs.pc (phase1_result g s thrown)) (fine_err _ refl)

from_barrier_honest : (further : Barrier → State → Outcome) (p : Result Barrier End × State) → ((b : Barrier) (s : State) → IsHonest (further b s).0) → IsFine p.0
    → IsHonest (from_barrier further p).0
from_barrier_honest further (Ok b, s) f fine = f b s
from_barrier_honest further (Err end, s) f fine = ended end (fine end refl)

flies_to_honest : (g : Tables) (s : State) (given : ℕ) (b : Barrier) (r : Result ℕ CxaFault) → IsHonest (flies_to g s given b r).0
flies_to_honest g s given b (Ok block) = throw_to_honest g s s.regs.pc block b
flies_to_honest g s given b (Err why) = refusal why given s

flies_honest : (g : Tables) (s : State) (given : ℕ) (d : Done (Result ℕ CxaFault)) (b : Barrier) → IsHonest (flies g s given d b).0
flies_honest g s given d b = flies_to_honest g _ given b d.answer

throws_honest : (g : Tables) (s : State) (r : Result (Unit {0}) CxaFault) → IsHonest (throw_outcome g s r).0
throws_honest g s (Err why) = refusal why (reg s 0) s
throws_honest g s (Ok may) =
    from_barrier_honest (λ b t. flies g t (reg s 0) (first_flight t) b) (find_barrier g s kind.Throw (gate_thrown s))
    (λ b t. flies_honest g t (reg s 0) (first_flight t) b) (sought_fine g s kind.Throw (gate_thrown s))

rethrows_honest : (g : Tables) (s : State) (r : Result ℕ CxaFault) → IsHonest (rethrow_outcome g s r).0
rethrows_honest g s (Err why) = ended _ (rethrow_fine why s.globals.caught s.regs.pc)
rethrows_honest g s (Ok block) =
    from_barrier_honest (λ b t. flies g t block (second_flight t) b) (find_barrier g s kind.Rethrow (block_thrown s block))
    (λ b t. flies_honest g t block (second_flight t) b) (sought_fine g s kind.Rethrow (block_thrown s block))

goes_on_honest : (g : Tables) (s : State) (vrs : Vrs) (r : Result (ℕ × CleanupWords) CxaFault) → IsHonest (continue_flight g s vrs r).0
goes_on_honest g s vrs (Ok (block, w)) = lands_honest s block _ _
goes_on_honest g s vrs (Err why) = refusal why _ s

resumes_in_honest : (g : Tables) (s : State) (o : Option Vrs) → IsHonest (resumes_in g s o).0
resumes_in_honest g s None = refusal fault.CleanupElsewhere 0 s
resumes_in_honest g s (Some vrs) =
    let d = end_cleanup_of (word s.memory) s.globals (slice_index vrs.r SP) in
    goes_on_honest g (record s { globals = d.globals; memory = set_slot_words d.writes s.memory }) vrs d.answer

resumes_honest : (g : Tables) (s : State) (o : Option ℕ) → IsHonest (resumes g s o).0
resumes_honest g s None = refusal fault.NoCleanup 0 s
resumes_honest g s (Some sp) = resumes_in_honest g s (caller_at g.image s.memory.segments s.regs.pc (all_of s.regs))

pub gate_honest : (g : Tables) (number next : ℕ) (s : State) → IsHonest (gate_of g number next s).0
unfolding gate_of
gate_honest g number next s =
    let P : Outcome → Type 0 = λ o. IsHonest o.0 in
    either P (number == ALLOCATE_GATE) _ _ (allocates next s (wrote (allocate_of (word s.memory) (reg s 0)) s.memory)) (
    either P (number == FREE_GATE) _ _ (frees next s (wrote (free_of (word s.memory) (object_slot (reg s 0))) s.memory)) (
    either P (number == THROW_GATE) _ _ (throws_honest g s (throw_fault (word s.memory) (object_slot (reg s 0)))) (
    either P (number == BEGIN_CATCH_GATE) _ _ (catches next s (call_result (begin_catch_of (word s.memory) s.globals (reg s 0)) s.memory)) (
    either P (number == END_CATCH_GATE) _ _ (drops next s (call_result (end_catch_of (word s.memory) s.globals) s.memory)) (
    either P (number == RETHROW_GATE) _ _ (rethrows_honest g s (second_flight s).answer) (
    either P (number == END_CLEANUP_GATE) _ _ (resumes_honest g s (innermost_of (word s.memory) s.globals)) (
    either P (number == UNEXPECTED_GATE) _ _ (ended _ refl) (
    either P (number == TERMINATE_GATE) _ _ (ended _ refl) (
    either P (number == UNCAUGHT_GATE) _ _ went (ended _ refl))))))))))
