-- A throw and a rethrow that go on: the exception flies, its barrier is written, and phase 2 goes to it.
use Rattle.std.proofs.Common.{◌≡◌, ℕ, Bool, true, false, cond, List, [], ◌∷◌, inl, Option, Some, None, Result, Ok, Err, refl, sym, ap, subst, ◌∙◌, arith}
use Rattle.std.specs.Prelude.{is_some}
use Rattle.eh_cxa.specs.Catch.{rethrow_by, rethrow_at, rethrow_of}
use Rattle.eh_cxa.specs.ListCalls.{throw_by_list, throw_entry, throw_list, rethrow_by_list, rethrow_entry, rethrow_from, rethrow_list}
use Rattle.eh_cxa.specs.Lists.{Lists, Record, Entry, Free, OutOfUse, Live, entry, state_in}
use Rattle.eh_cxa.specs.States.{state_of_word, is_fresh, is_caught}
use Rattle.eh_cxa.specs.Throw.{Throw, throw_by, start_throw_of}
use Rattle.eh_cxa.specs.Words.{Write, Pool, block, block_slot, object_slot}
use Rattle.eh_cxa.specs.declared.globals.CxaFault.{CxaFault}
use Rattle.eh_cxa.specs.declared.globals.Globals.{Globals}
use Rattle.eh_cxa.specs.declared.layout.TheConstants.{STATE}
use Rattle.eh_cxa.specs.declared.state.State.TheVariants.{Flying}
use Rattle.eh_gates.specs.State.{Tables}
use Rattle.eh_gates.specs.Throwing.{barrier_in, throw_event}
use Rattle.eh_gates.specs.declared.state.Turned.TheVariants.{Went}
use Rattle.eh_phase.specs.declared.phase1.Barrier.{Barrier}
use Rattle.eh_phase.specs.declared.phase1.Found.{Found}
use Rattle.eh_phase.specs.declared.phase1.Found.TheVariants as found
use Rattle.eh_phase.specs.declared.verdict.Thrown.{Thrown}
use Rattle.eh_trace.specs.declared.event.Event.{Event}
use Rattle.eh_trace.specs.declared.event.EventKind.{EventKind}
use Rattle.eh_trace.specs.declared.event.EventKind.TheVariants as event
use Rattle.eh_types.specs.Graph.{row_of}
use Rattle.thumb_core.specs.declared.ends.End.TheVariants as the_end
use Rattle.thumb_core.specs.declared.ends.TrapKind.TheVariants as trap
use Rattle.sim_machines.specs.Activations.{Recorded, reg_in, memory_of, words_in, heads, with_lists, lists_of}
use Rattle.sim_machines.specs.ActivationMachine as machine
use Rattle.sim_landings.specs.Landings.{top_of}
use Rattle.sim_landings.proofs.Beside.{AreBeside}
use Rattle.sim_landings.proofs.FlightDue.{not_went}

-- The exception of a slot, which is in no cleanup, flies: other lists, and words beside those of barriers.
pub record FliesTo (g : Tables) (s t : Recorded) (slot : ℕ) (thrown : Thrown) : Type 0 where
  pub barrier : Barrier
  pub found : machine.phase1_result g s thrown ≡ found.Barrier barrier
  pub lists : Lists
  pub writes : List Write
  pub beside : AreBeside writes
  pub told : Event
  pub idle : state_in (entry (lists_of s) slot) ≡ Some Flying → ⊥
  pub goes : machine.throw_to g s.regs.pc (block slot) barrier (with_lists lists writes (machine.log_event s told)) ≡ (Went, t)

module _ (g : Tables) (s t : Recorded) where
  abbrev Sought : Thrown → (Barrier → Recorded → machine.Outcome) → Type 0
  Sought thrown further = (b : Barrier) × (machine.phase1_result g s thrown ≡ found.Barrier b) × (told : Event) × (further b (machine.log_event s told) ≡ (Went, t))

  -- after the search
  sought_so : (what : EventKind) (thrown : Thrown) (further : Barrier → Recorded → machine.Outcome) → machine.from_barrier further (machine.find_barrier g s what thrown) ≡ (Went, t) → Sought thrown further
  unfolding machine.find_barrier
  sought_so what thrown further e = go (throw_event what (memory_of s) thrown (machine.size_of (lists_of s) (object_slot thrown.object))) (is_some (row_of g.types thrown.ty)) e
    where
      by : (told : Event) (f : Found) → machine.phase1_result g s thrown ≡ f → machine.from_barrier further (barrier_in s.regs.pc f, machine.log_event s told) ≡ (Went, t) → Sought thrown further
      by told (found.Barrier b) is e = (b, is, told, e)
      by told (found.Terminate why) is e = absurd (not_went (the_end.Terminate why) (machine.log_event s told) t e)
      by told (found.ObjectRead a) is e = absurd (not_went (the_end.Trap trap.ObjectRead a s.regs.pc) (machine.log_event s told) t e)

      go : (told : Event) (b : Bool)
          → machine.from_barrier further (cond b (barrier_in s.regs.pc (machine.phase1_result g s thrown), machine.log_event s told) (Err (the_end.Trap trap.BadType thrown.ty s.regs.pc), s)) ≡ (Went, t) → Sought thrown further
      go told true e = by told (machine.phase1_result g s thrown) refl e
      go told false e = absurd (not_went (the_end.Trap trap.BadType thrown.ty s.regs.pc) s t e)

-- ---- a throw

throw_beside : (w : Pool) (h : Globals) (o : Option ℕ) (words : Throw) → AreBeside (start_throw_of w h o words).writes
throw_beside w h None words = tt
throw_beside w h (Some slot) words = go (is_fresh (state_of_word (w slot STATE)))
  where
    go : (b : Bool) → AreBeside (throw_by b h slot words).writes
    go true = (inl (omega arith), omega arith, (inl (omega arith), omega arith, (inl (omega arith), omega arith, (inl (omega arith), omega arith, (inl (omega arith), omega arith, tt)))))
    go false = tt

-- what a throw answers is the control block of a slot whose exception doesn't fly
record IsThrown (l : Lists) (slot control : ℕ) : Type 0 where
  pub is : control ≡ block slot
  pub idle : state_in (entry l slot) ≡ Some Flying → ⊥

thrown_is : (l : Lists) (slot control : ℕ) (words : Throw) → (throw_list l (Some slot) words).answer ≡ Ok control → IsThrown l slot control
thrown_is l slot control words e = by (entry l slot) refl e
  where
    refused : (why : CxaFault) → ◌≡◌ {A = Result ℕ CxaFault} (Err why) (Ok control) → ⊥
    refused why f = absurd cc

    fresh : (b : Bool) (r : Record) → is_fresh (Some r.state) ≡ b → entry l slot ≡ Live r → (throw_by_list b l slot r words).answer ≡ Ok control → IsThrown l slot control
    fresh true r f there q = record {
      is = cc;
      idle = λ h.
          let state : Some r.state ≡ Some Flying = sym (ap state_in there) ∙ h in
          let clash : true ≡ false = sym f ∙ ap is_fresh state in cc;
    }
    fresh false r f there q = absurd (refused _ q)

    by : (d : Entry) → entry l slot ≡ d → (throw_entry l slot d words).answer ≡ Ok control → IsThrown l slot control
    by Free there q = absurd (refused _ q)
    by OutOfUse there q = absurd (refused _ q)
    by (Live r) there q = fresh (is_fresh (Some r.state)) r refl there q

pub throw_flies : (g : Tables) (s t : Recorded) (slot : ℕ) → object_slot (reg_in s 0) ≡ Some slot → machine.throw_gate g s ≡ (Went, t) → FliesTo g s t slot (machine.gate_thrown s)
throw_flies g s t slot at e = by (machine.first_flight s).answer refl e
  where
    by : (r : Result ℕ CxaFault) → (machine.first_flight s).answer ≡ r → machine.throw_outcome g s r ≡ (Went, t) → FliesTo g s t slot (machine.gate_thrown s)
    by (Err why) is q = absurd (not_went _ s t q)
    by (Ok control) is q =
        let thrown = thrown_is (lists_of s) slot control (machine.thrown_words s) (sym (ap (λ (o : Option ℕ). (throw_list (lists_of s) o (machine.thrown_words s)).answer) at) ∙ is) in
        let w = sought_so g s t event.Throw (machine.gate_thrown s) (λ b u. machine.throw_to g s.regs.pc control b (machine.flies_first u)) q in
        record {
          barrier = w.0;
          found = w.1;
          lists = (machine.first_flight s).lists;
          writes = (start_throw_of (words_in (lists_of s)) (heads (lists_of s)) (object_slot (reg_in s 0)) (machine.thrown_words s)).writes;
          beside = throw_beside (words_in (lists_of s)) (heads (lists_of s)) (object_slot (reg_in s 0)) (machine.thrown_words s);
          told = w.2;
          idle = thrown.idle;
          goes = subst (λ (n : ℕ). machine.throw_to g s.regs.pc n w.0 (machine.flies_first (machine.log_event s w.2)) ≡ (Went, t)) thrown.is w.3;
        }

-- ---- a rethrow

again_beside : (w : Pool) (h : Globals) (o : Option ℕ) → AreBeside (rethrow_at w h o).writes
again_beside w h None = tt
again_beside w h (Some slot) = go (is_caught (state_of_word (w slot STATE)))
  where
    go : (b : Bool) → AreBeside (rethrow_by b w h slot).writes
    go true = (inl (omega arith), omega arith, (inl (omega arith), omega arith, tt))
    go false = tt

again_is : (l : Lists) (caught : List ℕ) (slot control : ℕ) → top_of caught ≡ Some slot → (rethrow_from l caught).answer ≡ Ok control → IsThrown l slot control
again_is l [] slot control at e = absurd cc
again_is l (top ∷ more) slot control at e = subst (λ (n : ℕ). IsThrown l n control) (let same : top ≡ slot = cc in same) (by (entry l top) refl e)
  where
    refused : (why : CxaFault) → ◌≡◌ {A = Result ℕ CxaFault} (Err why) (Ok control) → ⊥
    refused why f = absurd cc

    caught : (b : Bool) (r : Record) → is_caught (Some r.state) ≡ b → entry l top ≡ Live r → (rethrow_by_list b l top r).answer ≡ Ok control → IsThrown l top control
    caught true r f there q = record {
      is = cc;
      idle = λ h.
          let state : Some r.state ≡ Some Flying = sym (ap state_in there) ∙ h in
          let clash : true ≡ false = sym f ∙ ap is_caught state in cc;
    }
    caught false r f there q = absurd (refused _ q)

    by : (d : Entry) → entry l top ≡ d → (rethrow_entry l top d).answer ≡ Ok control → IsThrown l top control
    by Free there q = absurd (refused _ q)
    by OutOfUse there q = absurd (refused _ q)
    by (Live r) there q = caught (is_caught (Some r.state)) r refl there q

pub rethrow_flies : (g : Tables) (s t : Recorded) (slot : ℕ) → block_slot (block slot) ≡ Some slot → top_of s.caught ≡ Some slot → machine.rethrow_gate g s ≡ (Went, t)
    → FliesTo g s t slot (machine.slot_thrown (lists_of s) (Some slot))
rethrow_flies g s t slot own at e = by (rethrow_list (lists_of s)).answer refl e
  where
    by : (r : Result ℕ CxaFault) → (rethrow_list (lists_of s)).answer ≡ r → machine.rethrow_outcome g s r ≡ (Went, t) → FliesTo g s t slot (machine.slot_thrown (lists_of s) (Some slot))
    by (Err why) is q = absurd (not_went _ s t q)
    by (Ok control) is q =
        let thrown = again_is (lists_of s) s.caught slot control at is in
        let here : block_slot control ≡ Some slot = ap block_slot thrown.is ∙ own in
        let w = sought_so g s t event.Rethrow (machine.slot_thrown (lists_of s) (block_slot control)) (λ b u. machine.throw_to g s.regs.pc control b (machine.flies_again u)) q in
        record {
          barrier = w.0;
          found = sym (ap (λ (o : Option ℕ). machine.phase1_result g s (machine.slot_thrown (lists_of s) o)) here) ∙ w.1;
          lists = (rethrow_list (lists_of s)).lists;
          writes = (rethrow_of (words_in (lists_of s)) (heads (lists_of s))).writes;
          beside = again_beside (words_in (lists_of s)) (heads (lists_of s)) (block_slot (heads (lists_of s)).caught);
          told = w.2;
          idle = thrown.idle;
          goes = subst (λ (n : ℕ). machine.throw_to g s.regs.pc n w.0 (machine.flies_again (machine.log_event s w.2)) ≡ (Went, t)) thrown.is w.3;
        }
