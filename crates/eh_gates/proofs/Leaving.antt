-- What a gate leaves where it ends the run.
use Rattle.std.proofs.Common.{◌≡◌, ℕ, ◌==◌, Bool, true, false, cond, List, [], Option, Some, None, Result, Ok, Err, slice_index, refl, sym, ap, ◌∙◌, subst}
use Rattle.std.specs.Prelude.{is_some}
use Rattle.eh_bus.specs.Memory.{Memory}
use Rattle.eh_bytecode.specs.declared.frame.Vrs.{Vrs}
use Rattle.eh_types.specs.Graph.{row_of}
use Rattle.eh_cxa.specs.States.{state_of_word, is_fresh, is_caught}
use Rattle.eh_cxa.specs.Words.{Pool, Write, word, set_slot_words, wrote, call_result, object_slot, block_slot, Done}
use Rattle.eh_cxa.specs.Allocate.{allocate_of, free_of}
use Rattle.eh_cxa.specs.Throw.{Throw, start_throw_of, throw_by, throw_fault, barrier_of}
use Rattle.eh_cxa.specs.Catch.{begin_catch_of, end_catch_of, rethrow_of, rethrow_at, rethrow_by}
use Rattle.eh_cxa.specs.Cleanup.{innermost_of, end_cleanup_of, end_cleanup_at, end_cleanup_by}
use Rattle.eh_cxa.specs.declared.layout.TheConstants.{STATE, CLEANUP_SP}
use Rattle.eh_cxa.specs.declared.globals.Globals.{Globals}
use Rattle.eh_cxa.specs.declared.globals.CleanupWords.{CleanupWords}
use Rattle.eh_cxa.specs.declared.globals.CxaFault.{CxaFault}
use Rattle.eh_cxa.specs.declared.globals.CxaFault.TheVariants as fault
use Rattle.eh_phase.specs.declared.verdict.Thrown.{Thrown}
use Rattle.eh_phase.specs.declared.phase1.Barrier.{Barrier}
use Rattle.eh_phase.specs.declared.phase1.Found.{Found}
use Rattle.eh_phase.specs.declared.phase1.Found.TheVariants as found
use Rattle.eh_phase.specs.declared.phase2.Entered.{Entered}
use Rattle.eh_phase.specs.declared.phase2.Entered.TheVariants as enters
use Rattle.eh_phase.specs.Phases.{phase2}
use Rattle.eh_phase.specs.Frames.{frames_of, caller_at}
use Rattle.eh_phase.specs.Calls.{stack_of}
use Rattle.eh_phase.specs.Laws.{goal_of}
use Rattle.eh_trace.specs.declared.event.EventKind.{EventKind}
use Rattle.eh_trace.specs.declared.event.EventKind.TheVariants as kind
use Rattle.thumb_core.specs.Registers.{all_of}
use Rattle.thumb_core.specs.declared.regs.TheConstants.{SP}
use Rattle.thumb_core.specs.declared.ends.End.{End}
use Rattle.thumb_core.specs.declared.ends.End.TheVariants as the_end
use Rattle.eh_gates.specs.declared.state.Turned.{Turned}
use Rattle.eh_gates.specs.declared.state.Turned.TheVariants.{Went, Ended}
use Rattle.eh_gates.specs.declared.gates.TheConstants.{ALLOCATE_GATE, FREE_GATE, THROW_GATE, BEGIN_CATCH_GATE, END_CATCH_GATE, RETHROW_GATE, END_CLEANUP_GATE, UNEXPECTED_GATE, TERMINATE_GATE, UNCAUGHT_GATE}
use Rattle.eh_gates.specs.State.{State, Tables, Outcome, reg, log_event}
use Rattle.eh_gates.specs.CallGates.{fault_end, refusal_outcome, allocate_outcome, free_outcome, begin_catch_outcome, end_catch_outcome}
use Rattle.eh_gates.specs.Landing.{enter_landing}
use Rattle.eh_gates.specs.Throwing.{frames_from, barrier_words, with_barrier, handler_object, throw_to, throw_event, size_of, barrier_in, phase1_result, find_barrier, from_barrier, flies_to, flies, first_flight, throw_outcome, throw_gate, gate_thrown, rethrow_end, block_thrown, second_flight, rethrow_outcome, rethrow_gate}
use Rattle.eh_gates.specs.Resuming.{continue_flight, ends_cleanup, resumes_in, resumes}
use Rattle.eh_gates.specs.Gates.{gate_of}
use Rattle.eh_gates.specs.Laws.{is_terminate, IsLeft, OnlyThrown, OnlyRethrown}

-- of an outcome: where it ends the run it leaves these of a state
abbrev pub Leaves : State → Outcome → Type 0
Leaves s (Went, t) = Unit {0}
Leaves s (Ended end, t) = IsLeft end s t

stays : (end : End) (s : State) → IsLeft end s s
stays end s = record { regs = refl; globals = λ h. refl; memory = λ h. refl }

either : {A : Type 0} (P : A → Type 0) (b : Bool) (x y : A) → P x → P y → P (cond b x y)
either P true x y px py = px
either P false x y px py = py

allocates : (next : ℕ) (s : State) (p : Result ℕ CxaFault × Memory) → Leaves s (allocate_outcome next s p)
allocates next s (Ok x, m) = tt
allocates next s (Err why, m) = stays _ s

frees : (next : ℕ) (s : State) (p : Result (Unit {0}) CxaFault × Memory) → Leaves s (free_outcome next s p)
frees next s (Ok x, m) = tt
frees next s (Err why, m) = stays _ s

catches : (next : ℕ) (s : State) (p : Result ℕ CxaFault × Globals × Memory) → Leaves s (begin_catch_outcome next s p)
catches next s (Ok x, g, m) = tt
catches next s (Err why, g, m) = stays _ s

drops : (next : ℕ) (s : State) (p : Result (ℕ × ℕ) CxaFault × Globals × Memory) → Leaves s (end_catch_outcome next s p)
drops next s (Ok (x, y), g, m) = tt
drops next s (Err why, g, m) = stays _ s

-- a terminate leaves the registers
ended_terminate : (cause : _) (s t : State) → t.regs ≡ s.regs → IsLeft (the_end.Terminate cause) s t
ended_terminate cause s t e = record { regs = e; globals = λ h. absurd (cc); memory = λ h. absurd (cc) }

lands : (s t : State) (block object : ℕ) (e : Entered) → t.regs ≡ s.regs → Leaves s (enter_landing t block object e)
lands s t block object (enters.Cleanup vrs pad next site) r = tt
lands s t block object (enters.Catch vrs pad) r = tt
lands s t block object (enters.Spec vrs pad) r = tt
lands s t block object enters.Unexpected r = ended_terminate _ s t r
lands s t block object (enters.Terminate why) r = ended_terminate why s t r

throws_to : (g : Tables) (s t : State) (site block : ℕ) (b : Barrier) → t.regs ≡ s.regs → Leaves s (throw_to g t site block b)
unfolding throw_to
throws_to g s t site block b r =
    let u = with_barrier t block (barrier_words block b) in
    lands s u block (handler_object block b.hit) (phase2 (goal_of b) 0 (frames_from g u None site)) r

-- ---- a call that is refused changes nothing

record Still {A : Type 0} (g : Globals) (d : Done (Result A CxaFault)) : Type 0 where
  globals : (why : CxaFault) → d.answer ≡ Err why → d.globals ≡ g
  writes : (why : CxaFault) → d.answer ≡ Err why → d.writes ≡ []

throw_by_still : (b : Bool) (g : Globals) (s : ℕ) (t : Throw) → Still g (throw_by b g s t)
throw_by_still true g s t = record { globals = λ why e. absurd (cc); writes = λ why e. absurd (cc) }
throw_by_still false g s t = record { globals = λ why e. refl; writes = λ why e. refl }

throw_still : (w : Pool) (g : Globals) (o : Option ℕ) (t : Throw) → Still g (start_throw_of w g o t)
throw_still w g None t = record { globals = λ why e. refl; writes = λ why e. refl }
throw_still w g (Some s) t = throw_by_still (is_fresh (state_of_word (w s STATE))) g s t

rethrow_by_still : (b : Bool) (w : Pool) (g : Globals) (s : ℕ) → Still g (rethrow_by b w g s)
rethrow_by_still true w g s = record { globals = λ why e. absurd (cc); writes = λ why e. absurd (cc) }
rethrow_by_still false w g s = record { globals = λ why e. refl; writes = λ why e. refl }

rethrow_at_still : (w : Pool) (g : Globals) (o : Option ℕ) → Still g (rethrow_at w g o)
rethrow_at_still w g None = record { globals = λ why e. refl; writes = λ why e. refl }
rethrow_at_still w g (Some s) = rethrow_by_still (is_caught (state_of_word (w s STATE))) w g s

cleanup_by_still : (b : Bool) (w : Pool) (g : Globals) (s : ℕ) → Still g (end_cleanup_by b w g s)
cleanup_by_still true w g s = record { globals = λ why e. absurd (cc); writes = λ why e. absurd (cc) }
cleanup_by_still false w g s = record { globals = λ why e. refl; writes = λ why e. refl }

cleanup_at_still : (w : Pool) (g : Globals) (sp : ℕ) (o : Option ℕ) → Still g (end_cleanup_at w g sp o)
cleanup_at_still w g sp None = record { globals = λ why e. refl; writes = λ why e. refl }
cleanup_at_still w g sp (Some s) = cleanup_by_still (w s CLEANUP_SP == sp) w g s

-- the state after a call that was refused
still_left : {A : Type 0} (s t : State) (d : Done (Result A CxaFault)) (why : CxaFault) (end : End) → Still t.globals d → d.answer ≡ Err why → IsLeft end s t
    → IsLeft end s (record t { globals = d.globals; memory = set_slot_words d.writes t.memory })
still_left s t d why end k e l = record {
  regs = l.regs;
  globals = λ h. k.globals why e ∙ l.globals h;
  memory = λ h. ap (λ (ws : List Write). set_slot_words ws t.memory) (k.writes why e) ∙ l.memory h;
}

-- ---- throws

-- a state that differs by events alone
AsLeft : State → State → Type 0
AsLeft s t = (end : End) → IsLeft end s t

flies_by : (g : Tables) (s t : State) (given : ℕ) (b : Barrier) (d : Done (Result ℕ CxaFault)) (r : Result ℕ CxaFault) → d.answer ≡ r → Still t.globals d → ((end : End) → IsLeft end s t)
    → Leaves s (flies_to g (record t { globals = d.globals; memory = set_slot_words d.writes t.memory }) given b r)
flies_by g s t given b d (Ok block) e k l =
    throws_to g s (record t { globals = d.globals; memory = set_slot_words d.writes t.memory }) t.regs.pc block b ((l the_end.Budget).regs)
flies_by g s t given b d (Err why) e k l = still_left s t d why _ k e (l _)

from_left : (further : Barrier → State → Outcome) (s : State) (p : Result Barrier End × State) → ((end : End) → IsLeft end s p.1)
    → ((b : Barrier) (t : State) → ((end : End) → IsLeft end s t) → Leaves s (further b t)) → Leaves s (from_barrier further p)
from_left further s (Ok b, t) l f = f b t l
from_left further s (Err end, t) l f = l end

sought_left : (g : Tables) (s : State) (what : EventKind) (thrown : Thrown) (end : End) → IsLeft end s (find_barrier g s what thrown).1
unfolding find_barrier
sought_left g s what thrown end =
    either (λ (p : Result Barrier End × State). IsLeft end s p.1) (is_some (row_of g.types thrown.ty)) _ _
    (record { regs = refl; globals = λ h. refl; memory = λ h. refl }) (stays end s)

throws_left : (g : Tables) (s : State) (r : Result (Unit {0}) CxaFault) → Leaves s (throw_outcome g s r)
throws_left g s (Err why) = stays _ s
throws_left g s (Ok may) =
    from_left (λ b t. flies g t (reg s 0) (first_flight t) b) s (find_barrier g s kind.Throw (gate_thrown s)) (sought_left g s kind.Throw (gate_thrown s))
    (λ b t l. flies_by g s t (reg s 0) b (first_flight t) (first_flight t).answer refl (throw_still (word t.memory) t.globals (object_slot (reg t 0)) _) l)

rethrows_left : (g : Tables) (s : State) (r : Result ℕ CxaFault) → Leaves s (rethrow_outcome g s r)
rethrows_left g s (Err why) = stays _ s
rethrows_left g s (Ok block) =
    from_left (λ b t. flies g t block (second_flight t) b) s (find_barrier g s kind.Rethrow (block_thrown s block)) (sought_left g s kind.Rethrow (block_thrown s block))
    (λ b t l. flies_by g s t block b (second_flight t) (second_flight t).answer refl (rethrow_at_still (word t.memory) t.globals (block_slot t.globals.caught)) l)

-- ---- the end of a cleanup

goes_on_left : (g : Tables) (s : State) (vrs : Vrs) (d : Done (Result (ℕ × CleanupWords) CxaFault)) (r : Result (ℕ × CleanupWords) CxaFault) → d.answer ≡ r → Still s.globals d
    → Leaves s (continue_flight g (record s { globals = d.globals; memory = set_slot_words d.writes s.memory }) vrs r)
goes_on_left g s vrs d (Ok (block, w)) e k =
    lands s (record s { globals = d.globals; memory = set_slot_words d.writes s.memory }) block _ _ refl
goes_on_left g s vrs d (Err why) e k = still_left s s d why _ k e (stays _ s)

resumes_in_left : (g : Tables) (s : State) (o : Option Vrs) → Leaves s (resumes_in g s o)
resumes_in_left g s None = stays _ s
resumes_in_left g s (Some vrs) =
    let d = end_cleanup_of (word s.memory) s.globals (slice_index vrs.r SP) in
    goes_on_left g s vrs d d.answer refl (cleanup_at_still (word s.memory) s.globals (slice_index vrs.r SP) (block_slot s.globals.cleanup))

resumes_left : (g : Tables) (s : State) (o : Option ℕ) → Leaves s (resumes g s o)
resumes_left g s None = stays _ s
resumes_left g s (Some sp) = resumes_in_left g s (caller_at g.image s.memory.segments s.regs.pc (all_of s.regs))

pub gate_left : (g : Tables) (number next : ℕ) (s : State) → Leaves s (gate_of g number next s)
unfolding gate_of
gate_left g number next s =
    let P : Outcome → Type 0 = λ o. Leaves s o in
    either P (number == ALLOCATE_GATE) _ _ (allocates next s (wrote (allocate_of (word s.memory) (reg s 0)) s.memory)) (
    either P (number == FREE_GATE) _ _ (frees next s (wrote (free_of (word s.memory) (object_slot (reg s 0))) s.memory)) (
    either P (number == THROW_GATE) _ _ (throws_left g s (throw_fault (word s.memory) (object_slot (reg s 0)))) (
    either P (number == BEGIN_CATCH_GATE) _ _ (catches next s (call_result (begin_catch_of (word s.memory) s.globals (reg s 0)) s.memory)) (
    either P (number == END_CATCH_GATE) _ _ (drops next s (call_result (end_catch_of (word s.memory) s.globals) s.memory)) (
    either P (number == RETHROW_GATE) _ _ (rethrows_left g s (second_flight s).answer) (
    either P (number == END_CLEANUP_GATE) _ _ (resumes_left g s (innermost_of (word s.memory) s.globals)) (
    either P (number == UNEXPECTED_GATE) _ _ (stays _ s) (
    either P (number == TERMINATE_GATE) _ _ (stays _ s) (
    either P (number == UNCAUGHT_GATE) _ _ tt (stays _ s))))))))))

-- ---- a throw without a barrier

same_end : (s t u : State) (end why : End) → ◌≡◌ {A = Outcome} (Ended why, u) (Ended end, t) → OnlyThrown s u → (end ≡ why) × OnlyThrown s t
same_end s t u end why e o =
    let one : Ended why ≡ Ended end = ap (λ (p : Outcome). p.0) e in
    let two : u ≡ t = ap (λ (p : Outcome). p.1) e in
    (cc, subst (λ (v : State). OnlyThrown s v) two o)

found_none : (g : Tables) (s : State) (why : End) → is_some (row_of g.types (reg s 1)) ≡ true → barrier_in s.regs.pc (phase1_result g s (gate_thrown s)) ≡ Err why
    → ◌≡◌ {A = Result Barrier End × State} (find_barrier g s kind.Throw (gate_thrown s)) (Err why, log_event s (throw_event kind.Throw s.memory (gate_thrown s) (size_of s (gate_thrown s))))
unfolding find_barrier
found_none g s why holds none =
    let after = log_event s (throw_event kind.Throw s.memory (gate_thrown s) (size_of s (gate_thrown s))) in
    let one : Result Barrier End → Result Barrier End × State = λ r. (r, after) in
    rw holds (ap one none)

pub thrown_only : (g : Tables) (s t : State) (end why : End) → throw_fault (word s.memory) (object_slot (reg s 0)) ≡ Ok tt → is_some (row_of g.types (reg s 1)) ≡ true
    → barrier_in s.regs.pc (phase1_result g s (gate_thrown s)) ≡ Err why → ◌≡◌ {A = Outcome} (throw_gate g s) (Ended end, t) → (end ≡ why) × OnlyThrown s t
thrown_only g s t end why may holds none e =
    same_end s t (log_event s (throw_event kind.Throw s.memory (gate_thrown s) (size_of s (gate_thrown s)))) end why (sym is_ended ∙ e)
    (record { throws = refl; cleanups = refl; catches = refl; unexpected = refl; globals = refl; memory = refl })
  where
    is_ended : ◌≡◌ {A = Outcome} (throw_gate g s) (Ended why, log_event s (throw_event kind.Throw s.memory (gate_thrown s) (size_of s (gate_thrown s))))
    is_ended = ap (throw_outcome g s) may ∙ ap (from_barrier (λ b u. flies g u (reg s 0) (first_flight u) b)) (found_none g s why holds none)

-- ---- a rethrow without a barrier

rethrown_none : (g : Tables) (s : State) (why : End) (thrown : Thrown) → is_some (row_of g.types thrown.ty) ≡ true → barrier_in s.regs.pc (phase1_result g s thrown) ≡ Err why
    → ◌≡◌ {A = Result Barrier End × State} (find_barrier g s kind.Rethrow thrown) (Err why, log_event s (throw_event kind.Rethrow s.memory thrown (size_of s thrown)))
unfolding find_barrier
rethrown_none g s why thrown holds none =
    let after = log_event s (throw_event kind.Rethrow s.memory thrown (size_of s thrown)) in
    let one : Result Barrier End → Result Barrier End × State = λ r. (r, after) in
    rw holds (ap one none)

pub rethrown_only : (g : Tables) (s t : State) (end why : End) (block : ℕ) → (second_flight s).answer ≡ Ok block → is_some (row_of g.types (block_thrown s block).ty) ≡ true
    → barrier_in s.regs.pc (phase1_result g s (block_thrown s block)) ≡ Err why → ◌≡◌ {A = Outcome} (rethrow_gate g s) (Ended end, t) → (end ≡ why) × OnlyRethrown s t
rethrown_only g s t end why block may holds none e =
    let after = log_event s (throw_event kind.Rethrow s.memory (block_thrown s block) (size_of s (block_thrown s block))) in
    let is : ◌≡◌ {A = Outcome} (rethrow_gate g s) (Ended why, after) =
    ap (rethrow_outcome g s) may ∙ ap (from_barrier (λ b u. flies g u block (second_flight u) b)) (rethrown_none g s why (block_thrown s block) holds none) in
    let both : ◌≡◌ {A = Outcome} (Ended why, after) (Ended end, t) = sym is ∙ e in
    let one : Ended why ≡ Ended end = ap (λ (p : Outcome). p.0) both in
    let two : after ≡ t = ap (λ (p : Outcome). p.1) both in (
      cc,
      subst (λ (v : State). OnlyRethrown s v) two
          (record { rethrows = refl; cleanups = refl; catches = refl; unexpected = refl; regs = refl; globals = refl; memory = refl }),
    )
