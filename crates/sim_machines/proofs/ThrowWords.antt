-- A throw with recorded activations does the same whatever the slots hold.
use Rattle.std.proofs.Common.{◌≡◌, ℕ, Bool, true, false, cond, min, List, [], ◌∷◌, drop, slice_index, Option, Some, None, Result, Ok, Err, refl, sym, ap, subst, ◌∙◌}
use Rattle.std.specs.Prelude.{is_some}
use Rattle.eh_bus.specs.Segment.{Segment}
use Rattle.eh_cxa.specs.ListCalls.{rethrow_list}
use Rattle.eh_cxa.specs.Throw.{set_barrier_of}
use Rattle.eh_cxa.specs.Words.{block_slot, object_slot}
use Rattle.eh_cxa.specs.declared.globals.CleanupWords.{CleanupWords}
use Rattle.eh_cxa.specs.declared.globals.CxaFault.{CxaFault}
use Rattle.eh_phase.specs.Laws.{goal_of}
use Rattle.eh_phase.specs.Phases.{phase2}
use Rattle.eh_phase.specs.declared.phase1.Barrier.{Barrier}
use Rattle.eh_phase.specs.declared.phase1.Found.{Found}
use Rattle.eh_phase.specs.declared.phase2.Entered.{Entered}
use Rattle.eh_phase.specs.declared.phase2.Entered.TheVariants as enters
use Rattle.eh_phase.specs.declared.verdict.Thrown.{Thrown}
use Rattle.eh_trace.specs.declared.event.Event.{Event}
use Rattle.eh_trace.specs.declared.event.EventKind.{EventKind}
use Rattle.eh_trace.specs.declared.event.EventKind.TheVariants as event
use Rattle.eh_trace.specs.declared.event.TheConstants.{MAX_BYTES}
use Rattle.eh_types.specs.Graph.{row_of}
use Rattle.thumb_core.specs.declared.regs.TheConstants.{SP}
use Rattle.thumb_core.specs.declared.ends.TrapKind.TheVariants as kind
use Rattle.thumb_core.specs.declared.ends.End.{End}
use Rattle.thumb_core.specs.declared.ends.End.TheVariants as the_end
use Rattle.eh_gates.specs.State.{Tables}
use Rattle.eh_gates.specs.Landing.{pad_event, words_of}
use Rattle.eh_gates.specs.Throwing.{handler_object, barrier_words, throw_event, barrier_in}
use Rattle.sim_machines.specs.Activations.{Activation, Recorded, memory_of, with_words, lists_of}
use Rattle.sim_machines.specs.ActivationMachine as acts
use Rattle.sim_machines.specs.SlotWords.{with_segments, SameBut, ReadsAlike, ThrowsReadNoSlots}

same_trans : (o p q : acts.Outcome) → SameBut o p → SameBut p q → SameBut o q
same_trans o p q h k = (h.0 ∙ k.0, h.1 ∙ k.1)

same_back : (o p : acts.Outcome) → SameBut o p → SameBut p o
same_back o p h = (sym h.0, sym h.1)

-- ---- what is entered is so without the segments

cleanup_over : (u : Recorded) (xs : List Activation) (n blk : ℕ) (r : List ℕ) (pad : ℕ) (w : CleanupWords) (e : Event) (o : Option ℕ)
    → with_segments [] (acts.log_event (acts.at_pad (acts.in_progress u n blk w o) xs r pad 0) e) ≡ with_segments [] (acts.log_event (acts.at_pad (acts.in_progress (with_segments [] u) n blk w o) xs r pad 0) e)
cleanup_over u [] n blk r pad w e None = refl
cleanup_over u [] n blk r pad w e (Some slot) = refl
cleanup_over u (a ∷ more) n blk r pad w e None = refl
cleanup_over u (a ∷ more) n blk r pad w e (Some slot) = refl

handler_over : (u : Recorded) (xs : List Activation) (r : List ℕ) (pad answer : ℕ) (e : Event) (o : Option ℕ)
    → with_segments [] (acts.log_event (acts.at_pad (acts.land_exception u o) xs r pad answer) e) ≡ with_segments [] (acts.log_event (acts.at_pad (acts.land_exception (with_segments [] u) o) xs r pad answer) e)
handler_over u [] r pad answer e None = refl
handler_over u [] r pad answer e (Some slot) = refl
handler_over u (a ∷ more) r pad answer e None = refl
handler_over u (a ∷ more) r pad answer e (Some slot) = refl

entered_over : (u : Recorded) (xs : List Activation) (blk object : ℕ) (e : Entered) → SameBut (acts.enter_landing u xs blk object e) (acts.enter_landing (with_segments [] u) xs blk object e)
entered_over u xs blk object (enters.Cleanup vrs pad next site) =
    (refl, cleanup_over u xs (acts.outside_of xs) blk vrs.r pad (words_of vrs.r next site) (pad_event event.Cleanup pad (slice_index vrs.r SP) 0) (block_slot blk))
entered_over u xs blk object (enters.Catch vrs pad) = (refl, handler_over u xs vrs.r pad blk (pad_event event.Catch pad (slice_index vrs.r SP) object) (block_slot blk))
entered_over u xs blk object (enters.Spec vrs pad) = (refl, handler_over u xs vrs.r pad blk (pad_event event.Unexpected pad (slice_index vrs.r SP) 0) (block_slot blk))
entered_over u xs blk object enters.Unexpected = (refl, refl)
entered_over u xs blk object (enters.Terminate why) = (refl, refl)

module _ (g : Tables) (site blk : ℕ) (b : Barrier) where
  without : (u : Recorded) → SameBut (acts.throw_to g site blk b u) (acts.throw_to g site blk b (with_segments [] u))
  unfolding acts.throw_to
  without u =
      let ws = set_barrier_of (block_slot blk) (barrier_words blk b) in
      let fs = acts.frames_from g u None site in
      let xs = drop (acts.passed_frame_count (goal_of b) 0 fs.frames) (u.first ∷ u.outer) in
      let e = phase2 (goal_of b) 0 fs in
      let object = handler_object blk b.hit in
      same_trans (acts.enter_landing (with_words ws u) xs blk object e) (acts.enter_landing (with_segments [] (with_words ws u)) xs blk object e) (acts.enter_landing (with_words ws (with_segments [] u)) xs blk object e)
      (entered_over (with_words ws u) xs blk object e)
      (same_back (acts.enter_landing (with_words ws (with_segments [] u)) xs blk object e) (acts.enter_landing (with_segments [] (with_words ws u)) xs blk object e) (entered_over (with_words ws (with_segments [] u)) xs blk object e))

  lands_same : (u v : Recorded) → with_segments [] u ≡ with_segments [] v → SameBut (acts.throw_to g site blk b u) (acts.throw_to g site blk b v)
  lands_same u v h =
      same_trans (acts.throw_to g site blk b u) (acts.throw_to g site blk b (with_segments [] u)) (acts.throw_to g site blk b v) (without u)
      (subst (λ (w : Recorded). SameBut (acts.throw_to g site blk b w) (acts.throw_to g site blk b v)) (sym h) (same_back (acts.throw_to g site blk b v) (acts.throw_to g site blk b (with_segments [] v)) (without v)))

-- ---- the search

module _ (g : Tables) (s : Recorded) (segments : List Segment) (what : EventKind) (thrown : Thrown) (alike : ReadsAlike g s segments thrown) (further : Barrier → Recorded → acts.Outcome)
    (respects : (b : Barrier) (u v : Recorded) → with_segments [] u ≡ with_segments [] v → SameBut (further b u) (further b v)) where
  abbrev t : Recorded
  t = with_segments segments s

  abbrev event_in : Recorded → Event
  event_in u = throw_event what (memory_of u) thrown (acts.size_of (lists_of s) (object_slot thrown.object))

  same_event : event_in t ≡ event_in s
  same_event =
      let n = min (acts.size_of (lists_of s) (object_slot thrown.object)) MAX_BYTES in
      ap (λ (bs : List ℕ). let e : Event = record { kind = what; a = thrown.object; b = thrown.ty; c = 0; bytes = bs; count = n } in e) (alike.bytes n)

  by_found : (r : Result Barrier End) → SameBut (acts.from_barrier further (r, acts.log_event t (event_in t))) (acts.from_barrier further (r, acts.log_event s (event_in s)))
  by_found (Ok b) = respects b (acts.log_event t (event_in t)) (acts.log_event s (event_in s)) (ap (λ (e : Event). with_segments [] (acts.log_event s e)) same_event)
  by_found (Err end) = (refl, ap (λ (e : Event). with_segments [] (acts.log_event s e)) same_event)

  sought_same : SameBut (acts.from_barrier further (acts.find_barrier g t what thrown)) (acts.from_barrier further (acts.find_barrier g s what thrown))
  unfolding acts.find_barrier
  sought_same = go (is_some (row_of g.types thrown.ty))
    where
      go : (c : Bool) → SameBut
          (acts.from_barrier further (cond c (barrier_in s.regs.pc (acts.phase1_result g t thrown), acts.log_event t (event_in t)) (Err (the_end.Trap kind.BadType thrown.ty s.regs.pc), t)))
          (acts.from_barrier further (cond c (barrier_in s.regs.pc (acts.phase1_result g s thrown), acts.log_event s (event_in s)) (Err (the_end.Trap kind.BadType thrown.ty s.regs.pc), s)))
      go true =
          subst (λ (f : Found). SameBut (acts.from_barrier further (barrier_in s.regs.pc f, acts.log_event t (event_in t))) (acts.from_barrier further (barrier_in s.regs.pc (acts.phase1_result g s thrown), acts.log_event s (event_in s))))
          (sym alike.matches) (by_found (barrier_in s.regs.pc (acts.phase1_result g s thrown)))
      go false = (refl, refl)

-- ---- the gates

module _ (g : Tables) (s : Recorded) (segments : List Segment) where
  throw_same : (r : Result ℕ CxaFault) → ReadsAlike g s segments (acts.gate_thrown s) → SameBut (acts.throw_outcome g (with_segments segments s) r) (acts.throw_outcome g s r)
  throw_same (Err why) alike = (refl, refl)
  throw_same (Ok blk) alike =
      sought_same g s segments event.Throw (acts.gate_thrown s) alike (λ b u. acts.throw_to g s.regs.pc blk b (acts.flies_first u))
      (λ b u v h. lands_same g s.regs.pc blk b (acts.flies_first u) (acts.flies_first v) (ap (λ (w : Recorded). with_segments [] (acts.flies_first w)) h))

  rethrow_same : (r : Result ℕ CxaFault) → ((blk : ℕ) → r ≡ Ok blk → ReadsAlike g s segments (acts.slot_thrown (lists_of s) (block_slot blk)))
      → SameBut (acts.rethrow_outcome g (with_segments segments s) r) (acts.rethrow_outcome g s r)
  rethrow_same (Err why) alike = (refl, refl)
  rethrow_same (Ok blk) alike =
      sought_same g s segments event.Rethrow (acts.slot_thrown (lists_of s) (block_slot blk)) (alike blk refl) (λ b u. acts.throw_to g s.regs.pc blk b (acts.flies_again u))
      (λ b u v h. lands_same g s.regs.pc blk b (acts.flies_again u) (acts.flies_again v) (ap (λ (w : Recorded). with_segments [] (acts.flies_again w)) h))

pub throws_read_none : ThrowsReadNoSlots
unfolding acts.gate_of
throws_read_none g next s segments = record {
  throw = λ alike. throw_same g s segments (acts.first_flight s).answer alike;
  rethrow = λ alike. rethrow_same g s segments (rethrow_list (lists_of s)).answer alike;
}
