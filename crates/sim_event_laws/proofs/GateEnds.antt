-- Tests of ends, and the ends of the gates of exceptions.
use Rattle.std.proofs.Common.{◌≡◌, ℕ, ◌==◌, Bool, true, false, cond, Option, Some, None, slice_index, Result, Ok, Err, refl}
use Rattle.std.specs.Prelude.{is_some}
use Rattle.eh_bus.specs.Memory.{Memory}
use Rattle.eh_bytecode.specs.declared.frame.Vrs.{Vrs}
use Rattle.eh_types.specs.Graph.{row_of}
use Rattle.eh_cxa.specs.Words.{word, set_slot_words, wrote, call_result, object_slot}
use Rattle.eh_cxa.specs.Allocate.{allocate_of, free_of}
use Rattle.eh_cxa.specs.Throw.{throw_fault}
use Rattle.eh_cxa.specs.Catch.{begin_catch_of, end_catch_of}
use Rattle.eh_cxa.specs.Cleanup.{innermost_of, end_cleanup_of}
use Rattle.eh_cxa.specs.declared.globals.Globals.{Globals}
use Rattle.eh_cxa.specs.declared.globals.CleanupWords.{CleanupWords}
use Rattle.eh_cxa.specs.declared.globals.CxaFault.{CxaFault}
use Rattle.eh_cxa.specs.declared.globals.CxaFault.TheVariants as fault
use Rattle.eh_phase.specs.declared.verdict.Thrown.{Thrown}
use Rattle.eh_phase.specs.declared.phase1.Barrier.{Barrier}
use Rattle.eh_phase.specs.declared.phase1.Found.{Found}
use Rattle.eh_phase.specs.declared.phase1.Found.TheVariants as found
use Rattle.eh_phase.specs.declared.phase2.Entered.{Entered}
use Rattle.eh_phase.specs.declared.phase2.Entered.TheVariants as enters
use Rattle.eh_phase.specs.Phases.{phase2}
use Rattle.eh_phase.specs.Frames.{caller_at}
use Rattle.eh_phase.specs.Laws.{goal_of}
use Rattle.eh_trace.specs.declared.event.EventKind.{EventKind}
use Rattle.eh_trace.specs.declared.event.EventKind.TheVariants as event
use Rattle.thumb_core.specs.Registers.{all_of}
use Rattle.thumb_core.specs.declared.regs.TheConstants.{SP}
use Rattle.thumb_core.specs.declared.ends.TrapKind.{TrapKind}
use Rattle.thumb_core.specs.declared.ends.TrapKind.TheVariants as kind
use Rattle.thumb_core.specs.declared.ends.End.{End}
use Rattle.thumb_core.specs.declared.ends.End.TheVariants.{Exit, Terminate, Trap, Budget, ReadFault, WriteFault}
use Rattle.eh_gates.specs.declared.state.Turned.TheVariants.{Went, Ended}
use Rattle.eh_gates.specs.declared.gates.TheConstants.{ALLOCATE_GATE, FREE_GATE, THROW_GATE, BEGIN_CATCH_GATE, END_CATCH_GATE, RETHROW_GATE, END_CLEANUP_GATE, UNEXPECTED_GATE, TERMINATE_GATE, UNCAUGHT_GATE}
use Rattle.eh_gates.specs.State.{State, Tables, Outcome, reg}
use Rattle.eh_gates.specs.CallGates.{fault_end, allocate_outcome, free_outcome, begin_catch_outcome, end_catch_outcome}
use Rattle.eh_gates.specs.Landing.{enter_landing}
use Rattle.eh_gates.specs.Throwing.{frames_from, barrier_words, with_barrier, handler_object, throw_to, barrier_in, phase1_result, find_barrier, from_barrier, flies_to, flies, first_flight, throw_outcome, gate_thrown, block_thrown, second_flight, rethrow_end, rethrow_outcome}
use Rattle.eh_gates.specs.Resuming.{continue_flight, resumes_in, resumes}
use Rattle.eh_gates.specs.Gates.{gate_of}

-- the traps of gates
abbrev pub is_gate_kind : TrapKind → Bool
is_gate_kind kind.Undefined = false
is_gate_kind kind.Unpredictable = false
is_gate_kind kind.NotInProfile = false
is_gate_kind kind.EvenTarget = false
is_gate_kind kind.Unmapped = false
is_gate_kind kind.Unaligned = false
is_gate_kind kind.ReadOnly = false
is_gate_kind kind.SavedSlot = false
is_gate_kind kind.Protected = false
is_gate_kind kind.NotExecutable = false
is_gate_kind kind.FellOff = false
is_gate_kind kind.SpRaised = false
is_gate_kind kind.SpInCleanup = false
is_gate_kind kind.StackLimit = false
is_gate_kind kind.BadCallTarget = false
is_gate_kind kind.UnknownGate = true
is_gate_kind kind.BadObject = true
is_gate_kind kind.BadUcb = true
is_gate_kind kind.TooBig = true
is_gate_kind kind.BadType = true
is_gate_kind kind.CaughtOrder = true
is_gate_kind kind.NoCaught = true
is_gate_kind kind.NoCleanup = true
is_gate_kind kind.CleanupElsewhere = true
is_gate_kind kind.ObjectRead = true

abbrev pub is_gates : End → Bool
is_gates (Exit number) = false
is_gates (Terminate why) = true
is_gates (Trap kind value pc) = is_gate_kind kind
is_gates Budget = false
is_gates ReadFault = false
is_gates WriteFault = false

-- an outcome that ends does so by an end of a gate
abbrev pub GateEnds : Outcome → Type 0
GateEnds (Went, t) = Unit {0}
GateEnds (Ended end, t) = is_gates end ≡ true

either : {A : Type 0} (P : A → Type 0) (b : Bool) (x y : A) → P x → P y → P (cond b x y)
either P true x y px py = px
either P false x y px py = py

pub fault_is : (why : CxaFault) (given pc : ℕ) → is_gates (fault_end why given pc) ≡ true
fault_is fault.PoolFull given pc = refl
fault_is fault.TooBig given pc = refl
fault_is fault.BadObject given pc = refl
fault_is fault.BadUcb given pc = refl
fault_is fault.CaughtOrder given pc = refl
fault_is fault.NoCaught given pc = refl
fault_is fault.NoCleanup given pc = refl
fault_is fault.CleanupElsewhere given pc = refl

pub rethrow_is : (why : CxaFault) (given pc : ℕ) → is_gates (rethrow_end why given pc) ≡ true
rethrow_is fault.PoolFull given pc = refl
rethrow_is fault.TooBig given pc = refl
rethrow_is fault.BadObject given pc = refl
rethrow_is fault.BadUcb given pc = refl
rethrow_is fault.CaughtOrder given pc = refl
rethrow_is fault.NoCaught given pc = refl
rethrow_is fault.NoCleanup given pc = refl
rethrow_is fault.CleanupElsewhere given pc = refl

abbrev pub BarrierEnds : Result Barrier End → Type 0
BarrierEnds (Ok b) = Unit {0}
BarrierEnds (Err end) = is_gates end ≡ true

pub barrier_is : (pc : ℕ) (f : Found) → BarrierEnds (barrier_in pc f)
barrier_is pc (found.Barrier b) = tt
barrier_is pc (found.Terminate why) = refl
barrier_is pc (found.ObjectRead a) = refl

allocates : (next : ℕ) (s : State) (p : Result ℕ CxaFault × Memory) → GateEnds (allocate_outcome next s p)
allocates next s (Ok x, m) = tt
allocates next s (Err why, m) = fault_is why (reg s 0) s.regs.pc

frees : (next : ℕ) (s : State) (p : Result (Unit {0}) CxaFault × Memory) → GateEnds (free_outcome next s p)
frees next s (Ok x, m) = tt
frees next s (Err why, m) = fault_is why (reg s 0) s.regs.pc

catches : (next : ℕ) (s : State) (p : Result ℕ CxaFault × Globals × Memory) → GateEnds (begin_catch_outcome next s p)
catches next s (Ok x, g, m) = tt
catches next s (Err why, g, m) = fault_is why (reg s 0) s.regs.pc

drops : (next : ℕ) (s : State) (p : Result (ℕ × ℕ) CxaFault × Globals × Memory) → GateEnds (end_catch_outcome next s p)
drops next s (Ok (x, y), g, m) = tt
drops next s (Err why, g, m) = fault_is why 0 s.regs.pc

lands : (s : State) (block object : ℕ) (e : Entered) → GateEnds (enter_landing s block object e)
lands s block object (enters.Cleanup vrs pad next site) = tt
lands s block object (enters.Catch vrs pad) = tt
lands s block object (enters.Spec vrs pad) = tt
lands s block object enters.Unexpected = refl
lands s block object (enters.Terminate why) = refl

throws_to : (g : Tables) (s : State) (site block : ℕ) (b : Barrier) → GateEnds (throw_to g s site block b)
unfolding throw_to
throws_to g s site block b =
    let u = with_barrier s block (barrier_words block b) in
    lands u block (handler_object block b.hit) (phase2 (goal_of b) 0 (frames_from g u None site))

flies_is : (g : Tables) (s : State) (given : ℕ) (b : Barrier) (r : Result ℕ CxaFault) → GateEnds (flies_to g s given b r)
flies_is g s given b (Ok block) = throws_to g s s.regs.pc block b
flies_is g s given b (Err why) = fault_is why given s.regs.pc

from_is : (further : Barrier → State → Outcome) (p : Result Barrier End × State) → BarrierEnds p.0 → ((b : Barrier) (t : State) → GateEnds (further b t)) → GateEnds (from_barrier further p)
from_is further (Ok b, t) h f = f b t
from_is further (Err end, t) h f = h

sought_is : (g : Tables) (s : State) (what : EventKind) (thrown : Thrown) → BarrierEnds (find_barrier g s what thrown).0
unfolding find_barrier
sought_is g s what thrown =
    either (λ (p : Result Barrier End × State). BarrierEnds p.0) (is_some (row_of g.types thrown.ty)) _ _ (barrier_is s.regs.pc (phase1_result g s thrown)) refl

throws_is : (g : Tables) (s : State) (r : Result (Unit {0}) CxaFault) → GateEnds (throw_outcome g s r)
throws_is g s (Err why) = fault_is why (reg s 0) s.regs.pc
throws_is g s (Ok may) =
    from_is (λ b t. flies g t (reg s 0) (first_flight t) b) (find_barrier g s event.Throw (gate_thrown s)) (sought_is g s event.Throw (gate_thrown s))
    (λ b t. flies_is g (record t { globals = (first_flight t).globals; memory = set_slot_words (first_flight t).writes t.memory }) (reg s 0) b (first_flight t).answer)

rethrows_is : (g : Tables) (s : State) (r : Result ℕ CxaFault) → GateEnds (rethrow_outcome g s r)
rethrows_is g s (Err why) = rethrow_is why s.globals.caught s.regs.pc
rethrows_is g s (Ok block) =
    from_is (λ b t. flies g t block (second_flight t) b) (find_barrier g s event.Rethrow (block_thrown s block)) (sought_is g s event.Rethrow (block_thrown s block))
    (λ b t. flies_is g (record t { globals = (second_flight t).globals; memory = set_slot_words (second_flight t).writes t.memory }) block b (second_flight t).answer)

goes_is : (g : Tables) (s : State) (vrs : Vrs) (r : Result (ℕ × CleanupWords) CxaFault) → GateEnds (continue_flight g s vrs r)
goes_is g s vrs (Ok (block, w)) = lands s block _ _
goes_is g s vrs (Err why) = fault_is why (slice_index vrs.r SP) s.regs.pc

resumes_in_is : (g : Tables) (s : State) (o : Option Vrs) → GateEnds (resumes_in g s o)
resumes_in_is g s None = refl
resumes_in_is g s (Some vrs) =
    let d = end_cleanup_of (word s.memory) s.globals (slice_index vrs.r SP) in
    goes_is g (record s { globals = d.globals; memory = set_slot_words d.writes s.memory }) vrs d.answer

resumes_is : (g : Tables) (s : State) (o : Option ℕ) → GateEnds (resumes g s o)
resumes_is g s None = refl
resumes_is g s (Some sp) = resumes_in_is g s (caller_at g.image s.memory.segments s.regs.pc (all_of s.regs))

pub gate_is : (g : Tables) (number next : ℕ) (s : State) → GateEnds (gate_of g number next s)
unfolding gate_of
gate_is g number next s =
    let P : Outcome → Type 0 = λ o. GateEnds o in
    either P (number == ALLOCATE_GATE) _ _ (allocates next s (wrote (allocate_of (word s.memory) (reg s 0)) s.memory)) (
    either P (number == FREE_GATE) _ _ (frees next s (wrote (free_of (word s.memory) (object_slot (reg s 0))) s.memory)) (
    either P (number == THROW_GATE) _ _ (throws_is g s (throw_fault (word s.memory) (object_slot (reg s 0)))) (
    either P (number == BEGIN_CATCH_GATE) _ _ (catches next s (call_result (begin_catch_of (word s.memory) s.globals (reg s 0)) s.memory)) (
    either P (number == END_CATCH_GATE) _ _ (drops next s (call_result (end_catch_of (word s.memory) s.globals) s.memory)) (
    either P (number == RETHROW_GATE) _ _ (rethrows_is g s (second_flight s).answer) (
    either P (number == END_CLEANUP_GATE) _ _ (resumes_is g s (innermost_of (word s.memory) s.globals)) (
    either P (number == UNEXPECTED_GATE) _ _ refl (either P (number == TERMINATE_GATE) _ _ refl (either P (number == UNCAUGHT_GATE) _ _ tt refl)))))))))
