-- The number of uncaught exceptions stays a word: of the calls on lists, and of every gate, throws and the ends of cleanups too.
use Rattle.std.proofs.Common.{ℕ, List, [], ◌∷◌, Option, Some, None, Result, Ok, Err, Bool, true, false, cond, ◌==◌, length}
use Rattle.std.specs.Prelude.{◌&&◌, is_some}
use Rattle.eh_cxa.specs.Words.{block_slot, word, object_slot}
use Rattle.eh_phase.specs.declared.phase2.Entered.{Entered}
use Rattle.sim_machines.specs.Activations.{Activation, Recorded, Caller, reg_in, memory_of, words_in, heads, with_lists, lists_of, InProgress}
use Rattle.eh_phase.specs.declared.phase1.Barrier.{Barrier}
use Rattle.eh_gates.specs.State.{Tables}
use Rattle.thumb_core.specs.declared.ends.End.{End}
use Rattle.eh_cxa.specs.declared.globals.BarrierWords.{BarrierWords}
use Rattle.eh_cxa.specs.declared.globals.CxaFault.{CxaFault}
use Rattle.eh_cxa.specs.Allocate.{allocate_of, free_of}
use Rattle.eh_cxa.specs.Catch.{begin_catch_of, end_catch_of}
use Rattle.eh_cxa.specs.ListCalls.{allocate_list, free_list, end_list, rethrow_list}
use Rattle.eh_cxa.specs.Lists.{Cleanup}
use Rattle.eh_cxa.specs.Throw.{barrier_of}
use Rattle.eh_phase.specs.declared.verdict.Thrown.{Thrown}
use Rattle.eh_trace.specs.declared.event.EventKind.{EventKind}
use Rattle.eh_types.specs.Graph.{row_of}
use Rattle.eh_gates.specs.declared.gates.TheConstants.{ALLOCATE_GATE, FREE_GATE, THROW_GATE, BEGIN_CATCH_GATE, END_CATCH_GATE, RETHROW_GATE, END_CLEANUP_GATE, UNEXPECTED_GATE, TERMINATE_GATE, UNCAUGHT_GATE}
use Rattle.eh_gates.specs.Throwing.{barrier_in, throw_event}
use Rattle.sim_machines.specs.ActivationMachine as acts
use Rattle.eh_phase.specs.declared.phase2.Entered.TheVariants as enters
use Rattle.eh_trace.specs.declared.event.EventKind.TheVariants as traced
use Rattle.thumb_core.specs.declared.ends.End.TheVariants as the_end
use Rattle.thumb_core.specs.declared.ends.TrapKind.TheVariants as kind
use Rattle.sim_relation.specs.Stands.{IsCounted}
use Rattle.sim_relation.proofs.CountedLists.{land_counts, allocate_counts, free_counts, throw_counts, catch_counts, end_counts, rethrow_counts}

-- ---- the gates

abbrev Counts : acts.Outcome → Type 0
Counts q = IsCounted (lists_of q.1)

module _ (s : Recorded) (h : IsCounted (lists_of s)) where
  flown_counts : (o : Option ℕ) → IsCounted (lists_of (acts.land_exception s o))
  flown_counts None = h
  flown_counts (Some t) = land_counts (lists_of s) h t

  progress_counts : (outside block : ℕ) (w : _) (o : Option ℕ) → IsCounted (lists_of (acts.in_progress s outside block w o))
  progress_counts outside block w None = h
  progress_counts outside block w (Some t) = h

  pad_lists : (u : Recorded) (acs : List Activation) (r : List ℕ) (pad answer : ℕ) → IsCounted (lists_of u) → IsCounted (lists_of (acts.at_pad u acs r pad answer))
  pad_lists u [] r pad answer e = e
  pad_lists u (a ∷ more) r pad answer e = e

  entered_counts : (acs : List Activation) (block object : ℕ) (e : Entered) → Counts (acts.enter_landing s acs block object e)
  entered_counts acs block object (enters.Cleanup vrs pad next site) = pad_lists (acts.in_progress s _ block _ (block_slot block)) acs vrs.r pad 0 (progress_counts _ block _ (block_slot block))
  entered_counts acs block object (enters.Catch vrs pad) = pad_lists (acts.land_exception s (block_slot block)) acs vrs.r pad block (flown_counts (block_slot block))
  entered_counts acs block object (enters.Spec vrs pad) = pad_lists (acts.land_exception s (block_slot block)) acs vrs.r pad block (flown_counts (block_slot block))
  entered_counts acs block object enters.Unexpected = h
  entered_counts acs block object (enters.Terminate why) = h

throw_to_counts : (g : Tables) (site block : ℕ) (b : Barrier) (s : Recorded) → IsCounted (lists_of s) → Counts (acts.throw_to g site block b s)
unfolding acts.throw_to
throw_to_counts g site block b s h = entered_counts _ h _ block _ _

from_counts : (further : Barrier → Recorded → acts.Outcome) (r : Result Barrier End) (t : Recorded) → IsCounted (lists_of t) → ((b : Barrier) → Counts (further b t)) → Counts (acts.from_barrier further (r, t))
from_counts further (Ok b) t h f = f b
from_counts further (Err end) t h f = h

pick_counts : (further : Barrier → Recorded → acts.Outcome) (b : Bool) (x y : Result Barrier End × Recorded) → Counts (acts.from_barrier further x) → Counts (acts.from_barrier further y)
    → Counts (acts.from_barrier further (cond b x y))
pick_counts further true x y p q = p
pick_counts further false x y p q = q

module _ (g : Tables) (s : Recorded) (h : IsCounted (lists_of s)) where
  seek_counts : (what : EventKind) (thrown : Thrown) (further : Barrier → Recorded → acts.Outcome) → ((b : Barrier) (t : Recorded) → IsCounted (lists_of t) → Counts (further b t))
      → Counts (acts.from_barrier further (acts.find_barrier g s what thrown))
  unfolding acts.find_barrier
  seek_counts what thrown further f =
      let found : Result Barrier End = barrier_in s.regs.pc (acts.phase1_result g s thrown) in
      let after : Recorded = acts.log_event s (throw_event what (memory_of s) thrown (acts.size_of (lists_of s) (object_slot thrown.object))) in
      let refused : Result Barrier End × Recorded = (Err (the_end.Trap kind.BadType thrown.ty s.regs.pc), s) in
      pick_counts further (is_some (row_of g.types thrown.ty)) (found, after) refused (from_counts further found after h (λ b. f b after h)) h

  throws_counts : (r : Result ℕ CxaFault) → Counts (acts.throw_outcome g s r)
  throws_counts (Err why) = h
  throws_counts (Ok block) =
      seek_counts traced.Throw (acts.gate_thrown s) (λ b t. acts.throw_to g s.regs.pc block b (acts.flies_first t))
      (λ b t e. throw_to_counts g s.regs.pc block b (acts.flies_first t) (throw_counts (lists_of t) e (object_slot (reg_in t 0)) (acts.thrown_words t)))

  rethrows_counts : (r : Result ℕ CxaFault) → Counts (acts.rethrow_outcome g s r)
  rethrows_counts (Err why) = h
  rethrows_counts (Ok block) =
      seek_counts traced.Rethrow (acts.slot_thrown (lists_of s) (block_slot block)) (λ b t. acts.throw_to g s.regs.pc block b (acts.flies_again t))
      (λ b t e. throw_to_counts g s.regs.pc block b (acts.flies_again t) (rethrow_counts (lists_of t) e))

  goes_on_counts : (c : Cleanup) (more : List InProgress) (gate : Caller) (a : Activation) (outer : List Activation) (b : BarrierWords)
      → Counts (acts.continue_flight g (record s { cleanups = more }) c gate a outer b)
  goes_on_counts c more gate a outer b = entered_counts (record s { cleanups = more }) h _ _ _ _

  choose : (b : Bool) (q q' : acts.Outcome) → Counts q → Counts q' → Counts (cond b q q')
  choose true q q' p r = p
  choose false q q' p r = r

  resumes_in_counts : (c : InProgress) (more : List InProgress) (outer : List Activation) → Counts (acts.resumes_in g s c more outer)
  resumes_in_counts c more [] = h
  resumes_in_counts c more (a ∷ outer) =
      choose ((s.first.caller.sp == c.cleanup.sp) && (length outer == c.place)) _ _
      (goes_on_counts c.cleanup more s.first.caller a outer (barrier_of (word (memory_of s)) (Some c.cleanup.slot))) h

  resumes_counts : (cs : List InProgress) → Counts (acts.resume_outcome g s cs)
  resumes_counts [] = h
  resumes_counts (c ∷ more) = choose _ _ _ (resumes_in_counts c more s.outer) h

  allocated_counts : (next : ℕ) (new : Recorded) → IsCounted (lists_of new) → (r : Result ℕ CxaFault) → Counts (acts.allocate_outcome next s new r)
  allocated_counts next new e (Ok object) = e
  allocated_counts next new e (Err why) = h

  freed_counts : (next : ℕ) (new : Recorded) → IsCounted (lists_of new) → (r : Result (Unit {0}) CxaFault) → Counts (acts.free_outcome next s new r)
  freed_counts next new e (Ok done) = e
  freed_counts next new e (Err why) = h

  caught_counts : (next : ℕ) (new : Recorded) → IsCounted (lists_of new) → (r : Result ℕ CxaFault) → Counts (acts.begin_catch_outcome next s new r)
  caught_counts next new e (Ok object) = e
  caught_counts next new e (Err why) = h

  dropped_counts : (next : ℕ) (new : Recorded) → IsCounted (lists_of new) → (r : Result (ℕ × ℕ) CxaFault) → Counts (acts.end_catch_outcome next s new r)
  dropped_counts next new e (Ok (object, destructor)) = e
  dropped_counts next new e (Err why) = h

  pub gate_counts : (number next : ℕ) → Counts (acts.gate_of g number next s)
  unfolding acts.gate_of
  gate_counts number next =
      choose (number == ALLOCATE_GATE) _ _
      (allocated_counts next (with_lists (allocate_list (lists_of s) (reg_in s 0)).lists (allocate_of (words_in (lists_of s)) (reg_in s 0)).writes s) (allocate_counts (lists_of s) h (reg_in s 0)) (allocate_list (lists_of s) (reg_in s 0)).answer) (
      choose (number == FREE_GATE) _ _
      (freed_counts next (with_lists (free_list (lists_of s) (object_slot (reg_in s 0))).lists (free_of (words_in (lists_of s)) (object_slot (reg_in s 0))).writes s) (free_counts (lists_of s) h (object_slot (reg_in s 0)))
      (free_list (lists_of s) (object_slot (reg_in s 0))).answer) (
      choose (number == THROW_GATE) _ _ (throws_counts (acts.first_flight s).answer) (
      choose (number == BEGIN_CATCH_GATE) _ _
      (caught_counts next (with_lists (acts.begin_catch s).lists (begin_catch_of (words_in (lists_of s)) (heads (lists_of s)) (reg_in s 0)).writes s) (catch_counts (lists_of s) h (acts.handler_address s) (block_slot (reg_in s 0)))
      (acts.begin_catch s).answer) (
      choose (number == END_CATCH_GATE) _ _ (dropped_counts next (with_lists (end_list (lists_of s)).lists (end_catch_of (words_in (lists_of s)) (heads (lists_of s))).writes s) (end_counts (lists_of s) h) (end_list (lists_of s)).answer) (
      choose (number == RETHROW_GATE) _ _ (rethrows_counts (rethrow_list (lists_of s)).answer) (
      choose (number == END_CLEANUP_GATE) _ _ (resumes_counts s.cleanups) (
      choose (number == UNEXPECTED_GATE) _ _ h (
      choose (number == TERMINATE_GATE) _ _ h (
      choose (number == UNCAUGHT_GATE) _ _ h h)))))))))
