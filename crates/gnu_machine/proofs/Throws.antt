-- A throw and a rethrow that go on land at a pad.
use Rattle.std.proofs.Common.{◌≡◌, ℕ, ◌<◌, inl, Bool, true, false, cond, List, [], ◌∷◌, length, Option, Some, None, Result, Ok, Err, refl, sym, ap, subst, ◌∙◌, arith, get_or-set_same, length-set, neg_ℤ}
use Rattle.std.specs.Prelude.{is_some, slice_index}
use Rattle.eh_cxa.proofs.Pools.{slot_small, object_small}
use Rattle.eh_cxa.specs.Catch.{rethrow_of}
use Rattle.eh_cxa.specs.ListCalls.{become, record_of_throw, throw_by_list, throw_entry, throw_list, rethrow_by_list, rethrow_entry, rethrow_from, rethrow_list}
use Rattle.eh_cxa.specs.Lists.{Record, Entry, Free, OutOfUse, Live, Lists, entry, state_in}
use Rattle.eh_cxa.specs.Stands as cxa
use Rattle.eh_cxa.specs.States.{is_fresh, is_caught}
use Rattle.eh_cxa.specs.Throw.{Throw, start_throw_of, set_barrier_of}
use Rattle.eh_cxa.specs.Words.{Write, word, block, block_slot, object_slot}
use Rattle.eh_cxa.specs.declared.globals.CxaFault.{CxaFault}
use Rattle.eh_cxa.specs.declared.layout.TheConstants.{SLOTS, NEXT_CAUGHT}
use Rattle.eh_cxa.specs.declared.state.State.TheVariants.{Flying}
use Rattle.eh_gates.specs.State.{Tables}
use Rattle.eh_gates.specs.Throwing.{handler_object, barrier_words, barrier_in, throw_event}
use Rattle.eh_gates.specs.declared.state.Turned.TheVariants.{Went}
use Rattle.eh_phase.specs.Laws.{goal_of}
use Rattle.eh_phase.specs.declared.phase1.Barrier.{Barrier}
use Rattle.eh_phase.specs.declared.phase1.Found.{Found}
use Rattle.eh_phase.specs.declared.phase1.Found.TheVariants as found
use Rattle.eh_phase.specs.declared.verdict.Thrown.{Thrown}
use Rattle.eh_trace.specs.Trace.{Trace, counting, push_event}
use Rattle.eh_trace.specs.declared.event.Event.{Event}
use Rattle.eh_trace.specs.declared.event.EventKind.{EventKind}
use Rattle.eh_trace.specs.declared.event.EventKind.TheVariants as event
use Rattle.eh_types.specs.Graph.{row_of}
use Rattle.frame_check.specs.Accepts.{Accepted}
use Rattle.sim_frames.proofs.FramesSame.{site_is}
use Rattle.sim_frames.proofs.Landing.{fit_frames, rise_outside}
use Rattle.sim_frames.specs.Frames.{IsSiteOf}
use Rattle.sim_frames.specs.Landings.{Fit}
use Rattle.sim_relation.proofs.Goes.{chain_top}
use Rattle.sim_relation.specs.Stands.{Keeps, IsProgram, DoesAt}
use Rattle.std.proofs.lemmas.List.{get_or_append_left}
use Rattle.thumb_core.specs.Registers.{all_of}
use Rattle.thumb_core.specs.declared.ends.End.TheVariants as the_end
use Rattle.thumb_core.specs.declared.ends.TrapKind.TheVariants as trap
use Rattle.thumb_core.specs.declared.regs.TheConstants.{SP}
use Rattle.thumb_isa.specs.declared.instr.Instr.TheVariants.{Svc}
use Rattle.sim_machines.specs.Activations.{Recorded, reg_in, memory_of, words_in, heads, frames_at, with_words, with_lists, lists_of}
use Rattle.sim_machines.specs.ActivationMachine as machine
use Rattle.sim_machines.specs.Checked.{program_of}
use Rattle.sim_machines.specs.Program.{program_tables}
use Rattle.gnu_machine.proofs.Events.{not_went}
use Rattle.gnu_machine.proofs.Lands.{Arrived, arrives}
use Rattle.gnu_machine.proofs.PadStates.{SiteState}

-- what a throw answers is the control block of a slot whose exception flies then
record Flies (slot answer : ℕ) (l : Lists) : Type 0 where
  pub control : answer ≡ block slot
  pub flies : state_in (entry l slot) ≡ Some Flying
  pub sized : length l.entries ≡ SLOTS

refused : (why : CxaFault) (control : ℕ) → ◌≡◌ {A = Result ℕ CxaFault} (Err why) (Ok control) → ⊥
refused why control f = absurd cc

answer_is : (a b : ℕ) → ◌≡◌ {A = Result ℕ CxaFault} (Ok a) (Ok b) → b ≡ a
answer_is a b e = cc

module _ (l : Lists) (slot control : ℕ) (sized : length l.entries ≡ SLOTS) (small : slot < SLOTS) where
  inside : slot < length l.entries
  inside = let z = sized in let h = small in omega (arith, z, h)

  thrown_flies : (w : Throw) → (throw_list l (Some slot) w).answer ≡ Ok control → Flies slot control (throw_list l (Some slot) w).lists
  thrown_flies w e = by (entry l slot) e
    where
      fresh : (b : Bool) (r : Record) → (throw_by_list b l slot r w).answer ≡ Ok control → Flies slot control (throw_by_list b l slot r w).lists
      fresh true r q = record {
        control = answer_is (block slot) control q;
        flies = ap state_in (get_or-set_same l.entries slot (Live (record_of_throw w r)) OutOfUse inside);
        sized = length-set l.entries slot (Live (record_of_throw w r)) ∙ sized;
      }
      fresh false r q = absurd (refused _ control q)

      by : (d : Entry) → (throw_entry l slot d w).answer ≡ Ok control → Flies slot control (throw_entry l slot d w).lists
      by Free q = absurd (refused _ control q)
      by OutOfUse q = absurd (refused _ control q)
      by (Live r) q = fresh (is_fresh (Some r.state)) r q

  again_flies : (rethrow_entry l slot (entry l slot)).answer ≡ Ok control → Flies slot control (rethrow_entry l slot (entry l slot)).lists
  again_flies e = by (entry l slot) e
    where
      caught : (b : Bool) (r : Record) → (rethrow_by_list b l slot r).answer ≡ Ok control → Flies slot control (rethrow_by_list b l slot r).lists
      caught true r q = record {
        control = answer_is (block slot) control q;
        flies = ap state_in (get_or-set_same l.entries slot (Live (become Flying (neg_ℤ r.count) r)) OutOfUse inside);
        sized = length-set l.entries slot (Live (become Flying (neg_ℤ r.count) r)) ∙ sized;
      }
      caught false r q = absurd (refused _ control q)

      by : (d : Entry) → (rethrow_entry l slot d).answer ≡ Ok control → Flies slot control (rethrow_entry l slot d).lists
      by Free q = absurd (refused _ control q)
      by OutOfUse q = absurd (refused _ control q)
      by (Live r) q = caught (is_caught (Some r.state)) r q

module _ (x : Accepted) (is : IsProgram x) (s t : Recorded) (k : Keeps x s) (number : ℕ) (does : DoesAt x s (Svc number)) where
  abbrev g : Tables
  g = program_tables (program_of x)

  here : IsSiteOf x s s.regs.pc
  here = site_is x s s.regs.pc is (inl (number, does, refl))

  at : SiteState x s.first.function s.regs.pc
  at = record {
    function = here.at.function;
    marks = here.at.marks;
    of = here.at.of;
    place = here.at.place;
    fact = here.at.fact;
    state = here.at.state;
    instr = here.instr;
    at = here.stands;
    is_site = here.is_site;
  }

  sp_is : slice_index (all_of s.regs) SP ≡ reg_in s SP
  sp_is = get_or_append_left s.regs.r (s.regs.pc ∷ []) 0 13 (let count = k.sound.words.count in omega (arith, count))

  -- after a search that found a barrier
  module _ (what : EventKind) (quiet : (events : Trace) → (counting what events).catches ≡ events.catches) (thrown : Thrown) where
    sought : (further : Barrier → Recorded → machine.Outcome) → machine.from_barrier further (machine.find_barrier g s what thrown) ≡ (Went, t)
        → (b : Barrier) × (told : Event) × ((push_event s.events told).catches ≡ s.events.catches) × (further b (machine.log_event s told) ≡ (Went, t))
    unfolding machine.find_barrier
    sought further e = go (throw_event what (memory_of s) thrown (machine.size_of (lists_of s) (object_slot thrown.object))) (quiet s.events) (is_some (row_of g.types thrown.ty)) e
      where
        by : (told : Event) → (push_event s.events told).catches ≡ s.events.catches → (f : Found) → machine.from_barrier further (barrier_in s.regs.pc f, machine.log_event s told) ≡ (Went, t)
            → (b : Barrier) × (told : Event) × ((push_event s.events told).catches ≡ s.events.catches) × (further b (machine.log_event s told) ≡ (Went, t))
        by told h (found.Barrier b) e = (b, told, h, e)
        by told h (found.Terminate why) e = absurd (not_went (the_end.Terminate why) (machine.log_event s told) t e)
        by told h (found.ObjectRead a) e = absurd (not_went (the_end.Trap trap.ObjectRead a s.regs.pc) (machine.log_event s told) t e)

        go : (told : Event) → (push_event s.events told).catches ≡ s.events.catches → (b : Bool)
            → machine.from_barrier further (cond b (barrier_in s.regs.pc (machine.phase1_result g s thrown), machine.log_event s told) (Err (the_end.Trap trap.BadType thrown.ty s.regs.pc), s)) ≡ (Went, t)
            → (b : Barrier) × (told : Event) × ((push_event s.events told).catches ≡ s.events.catches) × (further b (machine.log_event s told) ≡ (Went, t))
        go told h true e = by told h (machine.phase1_result g s thrown) e
        go told h false e = absurd (not_went (the_end.Trap trap.BadType thrown.ty s.regs.pc) s t e)

  -- the exception flies
  module _ (slot : ℕ) (small : slot < SLOTS) (lists : Lists) (writes : List Write) (told : Event) (b : Barrier) (f : Flies slot (block slot) lists)
      (quiet : (push_event s.events told).catches ≡ s.events.catches) where
    abbrev u : Recorded
    u = with_words (set_barrier_of (block_slot (block slot)) (barrier_words (block slot) b)) (with_lists lists writes (machine.log_event s told))

    flight_arrives : machine.throw_to g s.regs.pc (block slot) b (with_lists lists writes (machine.log_event s told)) ≡ (Went, t) → Arrived x s t
    unfolding machine.throw_to
    flight_arrives e =
        let top = chain_top x s.segments s.home s.first.caller s.outer k.chain in
        let high = k.high in
        arrives x is s t u slot small f.flies f.sized quiet s.segments k.corresponds.map.segments s.home s.first s.outer s.regs.pc (all_of s.regs) at k.whole k.chain (reg_in s SP) (omega (arith, high, top))
        (subst (λ (n : ℕ). Fit n (frames_at x.image None s.regs.pc (all_of s.regs) s.first s.outer).frames (s.first ∷ s.outer)) sp_is
        (fit_frames x s.segments s.home None s.regs.pc (all_of s.regs) s.first s.outer k.whole k.chain))
        (k.slots, high, top, rise_outside x s.segments s.home s.first.caller s.outer k.chain) (goal_of b) 0 (handler_object (block slot) b.hit) e

  pub throw_arrives : machine.throw_gate g s ≡ (Went, t) → Arrived x s t
  throw_arrives e = by (object_slot (reg_in s 0)) refl
    where
      at_slot : (slot : ℕ) → object_slot (reg_in s 0) ≡ Some slot → (r : Result ℕ CxaFault) → (machine.first_flight s).answer ≡ r → machine.throw_outcome g s r ≡ (Went, t) → Arrived x s t
      at_slot slot there (Err why) is_answer q = absurd (not_went _ s t q)
      at_slot slot there (Ok control) is_answer q =
          let small = object_small (reg_in s 0) slot there in
          let lists : Lists = (machine.first_flight s).lists in
          let writes : List Write = (start_throw_of (words_in (lists_of s)) (heads (lists_of s)) (object_slot (reg_in s 0)) (machine.thrown_words s)).writes in
          let f : Flies slot control lists =
          subst (λ (o : Option ℕ). Flies slot control (throw_list (lists_of s) o (machine.thrown_words s)).lists) (sym there)
          (thrown_flies (lists_of s) slot control k.corresponds.stands.shows.sized small (machine.thrown_words s)
          (sym (ap (λ (o : Option ℕ). (throw_list (lists_of s) o (machine.thrown_words s)).answer) there) ∙ is_answer)) in
          let w = sought event.Throw (λ d. refl) (machine.gate_thrown s) (λ b u. machine.throw_to g s.regs.pc control b (machine.flies_first u)) q in
          flight_arrives slot small lists writes w.1 w.0 (subst (λ (n : ℕ). Flies slot n lists) f.control f) w.2
          (subst (λ (n : ℕ). machine.throw_to g s.regs.pc n w.0 (machine.flies_first (machine.log_event s w.1)) ≡ (Went, t)) f.control w.3)

      none : (r : Result ℕ CxaFault) → (machine.first_flight s).answer ≡ r → object_slot (reg_in s 0) ≡ None → machine.throw_outcome g s r ≡ (Went, t) → Arrived x s t
      none (Err why) is_answer f q = absurd (not_went _ s t q)
      none (Ok control) is_answer f q =
          absurd (refused _ control (sym (ap (λ (o : Option ℕ). (throw_list (lists_of s) o (machine.thrown_words s)).answer) f) ∙ is_answer))

      by : (o : Option ℕ) → object_slot (reg_in s 0) ≡ o → Arrived x s t
      by None f = none (machine.first_flight s).answer refl f e
      by (Some slot) f = at_slot slot f (machine.first_flight s).answer refl e

  pub rethrow_arrives : machine.rethrow_gate g s ≡ (Went, t) → Arrived x s t
  rethrow_arrives e = by s.caught refl (rethrow_list (lists_of s)).answer refl e
    where
      top_small : (slot : ℕ) (more : List ℕ) → s.caught ≡ slot ∷ more → slot < SLOTS
      top_small slot more f =
          let c = subst (λ (ys : List ℕ). cxa.Chain (λ u. word (memory_of s) u NEXT_CAUGHT) (heads (lists_of s)).caught ys) f k.corresponds.stands.shows.caught in
          slot_small (heads (lists_of s)).caught slot c.0

      by : (xs : List ℕ) → s.caught ≡ xs → (r : Result ℕ CxaFault) → (rethrow_list (lists_of s)).answer ≡ r → machine.rethrow_outcome g s r ≡ (Went, t) → Arrived x s t
      by xs f (Err why) is_answer q = absurd (not_went _ s t q)
      by [] f (Ok control) is_answer q = absurd (refused _ control (sym (ap (λ (ys : List ℕ). (rethrow_from (lists_of s) ys).answer) f) ∙ is_answer))
      by (slot ∷ more) f (Ok control) is_answer q =
          let small = top_small slot more f in
          let lists : Lists = (rethrow_list (lists_of s)).lists in
          let writes : List Write = (rethrow_of (words_in (lists_of s)) (heads (lists_of s))).writes in
          let w0 : Flies slot control lists =
          subst (λ (ys : List ℕ). Flies slot control (rethrow_from (lists_of s) ys).lists) (sym f)
          (again_flies (lists_of s) slot control k.corresponds.stands.shows.sized small
          (sym (ap (λ (ys : List ℕ). (rethrow_from (lists_of s) ys).answer) f) ∙ is_answer)) in
          let w = sought event.Rethrow (λ d. refl) (machine.slot_thrown (lists_of s) (block_slot control)) (λ b u. machine.throw_to g s.regs.pc control b (machine.flies_again u)) q in
          flight_arrives slot small lists writes w.1 w.0 (subst (λ (n : ℕ). Flies slot n lists) w0.control w0) w.2
          (subst (λ (n : ℕ). machine.throw_to g s.regs.pc n w.0 (machine.flies_again (machine.log_event s w.1)) ≡ (Went, t)) w0.control w.3)
