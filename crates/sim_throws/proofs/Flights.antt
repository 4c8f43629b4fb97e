-- What a throw and a rethrow leave is kept, given what phase 2 enters after the words of the flight.
use Rattle.std.proofs.Common.{◌≡◌, ℕ, List, ◌<◌, ◌^◌, Bool, true, false, cond, [], ◌∷◌, length, set, Option, Some, None, Result, Ok, Err, refl, sym, ap, subst, ◌∙◌, arith, get_or-set_same, neg_ℤ}
use Rattle.std.specs.Prelude.{is_some}
use Rattle.eh_cxa.specs.Lists.{Lists, Entry, Free, OutOfUse, Live, entry, slots, state_in, Outcome as Call}
use Rattle.eh_cxa.specs.Words.{Write, block, Done, write, word, block_slot, object_slot, set_slot_words, call_result, one_more}
use Rattle.eh_phase.specs.declared.phase1.Barrier.{Barrier}
use Rattle.eh_phase.specs.declared.verdict.Thrown.{Thrown}
use Rattle.eh_trace.specs.declared.event.Event.{Event}
use Rattle.sim_machines.specs.frame_check.Accepts.{Accepted}
use Rattle.eh_gates.specs.State.{Tables}
use Rattle.sim_machines.specs.Activations.{Recorded, with_lists, reg_in, memory_of, heads, words_in, lists_of, cleanups_in}
use Rattle.sim_machines.proofs.Flying.{HasFlown}
use Rattle.eh_bus.specs.Lists.{Has}
use Rattle.eh_cxa.specs.declared.globals.CxaFault.{CxaFault}
use Rattle.eh_cxa.specs.declared.layout.TheConstants.{SLOTS, STATE, COUNT, NEXT_CAUGHT}
use Rattle.eh_cxa.specs.declared.state.State.{State as Stage}
use Rattle.eh_cxa.specs.declared.state.State.TheVariants.{Fresh, Caught, Flying}
use Rattle.eh_cxa.specs.declared.state.TheConstants.{FLYING}
use Rattle.eh_cxa.specs.States.{state_of_word, is_fresh, is_caught}
use Rattle.eh_cxa.specs.ListCalls.{become, record_of_throw, throw_by_list, throw_entry, throw_list, rethrow_by_list, rethrow_entry, rethrow_from, rethrow_list}
use Rattle.eh_cxa.specs.Catch.{negated_count, rethrow_by, rethrow_at, rethrow_of}
use Rattle.eh_cxa.specs.Throw.{Throw, throw_by, start_throw_of}
use Rattle.eh_cxa.specs.Stands.{record_of, Chain, Stands}
use Rattle.eh_cxa.proofs.Looking.{Look, live, free, lost, look, fresh_is, caught_is, one_state}
use Rattle.eh_cxa.proofs.Meets.{throw_meets, rethrow_meets}
use Rattle.eh_cxa.proofs.Pools.{object_small, slot_small, slot_of_block_is}
use Rattle.eh_phase.specs.declared.phase1.Found.{Found}
use Rattle.eh_trace.specs.declared.event.EventKind.{EventKind}
use Rattle.eh_types.specs.Graph.{row_of}
use Rattle.eh_gates.specs.Throwing.{barrier_in, throw_event}
use Rattle.sim_machines.specs.Corresponds.{Corresponds}
use Rattle.sim_machines.proofs.InStep.{same_slot, same_count}
use Rattle.eh_phase.specs.declared.phase1.Found.TheVariants as found
use Rattle.sim_machines.specs.ActivationMachine as machine
use Rattle.eh_trace.specs.declared.event.EventKind.TheVariants as kind
use Rattle.thumb_core.specs.declared.ends.End.TheVariants as the_end
use Rattle.thumb_core.specs.declared.ends.TrapKind.TheVariants as trap
use Rattle.sim_frames.specs.sim_relation.Stands.{Keeps, IsCounted}
use Rattle.sim_throws.proofs.Bounds.{AreOf}
use Rattle.sim_frames.proofs.sim_relation.CountedLists.{more_small}

-- what is left after the words of a flight of one slot, for a barrier that was found
abbrev pub FlightKeeps : Tables → Accepted → Recorded → Thrown → Type 0
FlightKeeps g x s thrown = (slot : ℕ) (writes : List Write) (flown : Lists) (e : Event) (b : Barrier) → HasFlown s slot writes flown → flown.cleanups ≡ cleanups_in s.cleanups → AreOf slot writes → IsCounted flown
    → machine.phase1_result g s thrown ≡ found.Barrier b → Keeps x (machine.throw_to g s.regs.pc (block slot) b (with_lists flown writes (machine.log_event s e))).1

module _ (g : Tables) (x : Accepted) (s : Recorded) (k : Keeps x s) where
  abbrev c : Corresponds s
  c = k.corresponds

  -- events of the trace are no part of it
  pub logged_keeps : (e : Event) → Keeps x (machine.log_event s e)
  logged_keeps e = record {
    corresponds = record { map = k.corresponds.map; stands = k.corresponds.stands };
    counted = k.counted;
    image = k.image;
    sound = k.sound;
    low = k.low;
    high = k.high;
    whole = k.whole;
    slots = k.slots;
    first = k.first;
    beyond = k.beyond;
    chain = k.chain;
    cleanups = k.cleanups;
  }

  sought_keeps : (further : Barrier → Recorded → machine.Outcome) (what : EventKind) (thrown : Thrown) → ((e : Event) (b : Barrier) → machine.phase1_result g s thrown ≡ found.Barrier b → Keeps x (further b (machine.log_event s e)).1)
      → Keeps x (machine.from_barrier further (machine.find_barrier g s what thrown)).1
  unfolding machine.find_barrier
  sought_keeps further what thrown h = go (is_some (row_of g.types thrown.ty))
    where
      abbrev_event : Event
      abbrev_event = throw_event what (memory_of s) thrown (machine.size_of (lists_of s) (object_slot thrown.object))

      by : (f : Found) → machine.phase1_result g s thrown ≡ f → Keeps x (machine.from_barrier further (barrier_in s.regs.pc f, machine.log_event s abbrev_event)).1
      by (found.Barrier b) e = h abbrev_event b e
      by (found.Terminate why) e = logged_keeps abbrev_event
      by (found.ObjectRead a) e = logged_keeps abbrev_event

      go : (b : Bool) → Keeps x (machine.from_barrier further (cond b (barrier_in s.regs.pc (machine.phase1_result g s thrown), machine.log_event s abbrev_event) (Err (the_end.Trap trap.BadType thrown.ty s.regs.pc), s))).1
      go true = by (machine.phase1_result g s thrown) refl
      go false = k

  -- ---- a throw

  module _ (ty : reg_in s 1 < 2 ^ 32) (destructor : reg_in s 2 < 2 ^ 32) (flies : FlightKeeps g x s (machine.gate_thrown s)) where
    abbrev with_type : Throw
    with_type = machine.thrown_words s

    refused_keeps : (why : CxaFault) → (machine.first_flight s).answer ≡ Err why → Keeps x (machine.throw_gate g s).1
    refused_keeps why e = subst (λ (r : Result ℕ CxaFault). Keeps x (machine.throw_outcome g s r).1) (sym e) k

    module _ (slot : ℕ) (is : object_slot (reg_in s 0) ≡ Some slot) (st : Stage) (name : state_of_word (word (memory_of s) slot STATE) ≡ Some st)
        (live_is : entry (lists_of s) slot ≡ Live (record_of st (word (memory_of s)) slot)) (fresh : is_fresh (Some st) ≡ true) where
      small : slot < SLOTS
      small = object_small (reg_in s 0) slot is

      abbrev flight : Done (Result ℕ CxaFault)
      flight = throw_by true (heads (lists_of s)) slot with_type

      abbrev flown : Lists
      flown = record {
        entries = set s.entries slot (Live (record_of_throw with_type (record_of st (word (memory_of s)) slot)));
        caught = s.caught;
        cleanups = cleanups_in s.cleanups;
        uncaught = one_more s.uncaught;
      }

      by_words : start_throw_of (word (memory_of s)) (heads (lists_of s)) (object_slot (reg_in s 0)) with_type ≡ flight
      by_words =
          ap (λ (o : Option ℕ). start_throw_of (word (memory_of s)) (heads (lists_of s)) o with_type) is
          ∙ ap (λ n. throw_by (is_fresh n) (heads (lists_of s)) slot with_type) name ∙ ap (λ (b : Bool). throw_by b (heads (lists_of s)) slot with_type) fresh

      by_list_words : start_throw_of (words_in (lists_of s)) (heads (lists_of s)) (object_slot (reg_in s 0)) with_type ≡ flight
      by_list_words =
          ap (λ (o : Option ℕ). start_throw_of (words_in (lists_of s)) (heads (lists_of s)) o with_type) is
          ∙ ap (λ n. throw_by (is_fresh n) (heads (lists_of s)) slot with_type) ((same_slot (word (memory_of s)) (heads (lists_of s)) (lists_of s) c.stands slot small).state ∙ name)
          ∙ ap (λ (b : Bool). throw_by b (heads (lists_of s)) slot with_type) fresh

      by_lists : ◌≡◌ {A = Call (Result ℕ CxaFault)} (machine.first_flight s) (record { answer = Ok (block slot); lists = flown })
      by_lists =
          ap (λ (o : Option ℕ). throw_list (lists_of s) o with_type) is ∙ ap (λ (e : Entry). throw_entry (lists_of s) slot e with_type) live_is
          ∙ ap (λ (b : Bool). throw_by_list b (lists_of s) slot (record_of st (word (memory_of s)) slot) with_type) fresh

      not_flying : Has (slots (cleanups_in s.cleanups)) slot → ⊥
      not_flying h =
          let f = c.stands.valid.flying slot h in
          let p : Some st ≡ Some Flying = sym (ap state_in live_is) ∙ f in
          let q : Fresh ≡ Flying = sym (fresh_is st fresh) ∙ one_state st Flying p in
          absurd (cc)

      stands_flown : Stands (word (set_slot_words flight.writes (memory_of s))) (heads flown) flown
      stands_flown =
          let middle = set_slot_words flight.writes (memory_of s) in
          let f = throw_meets (memory_of s) middle (heads (lists_of s)) flight.globals flight.answer (reg_in s 0) with_type c.map (record { ty = ty; destructor = destructor })
          (ap (λ (d : Done (Result ℕ CxaFault)). call_result d (memory_of s)) (sym by_words)) (lists_of s) c.stands in
          subst (λ (o : Call (Result ℕ CxaFault)). Stands (word middle) (heads flown) o.lists) by_lists f.stands

      has_flown : HasFlown s slot flight.writes flown
      has_flown = record {
        small = small;
        stands = stands_flown;
        cleanups = refl;
        flies = let h = small in let z = c.stands.shows.sized in let inside : slot < length s.entries = omega arith in rw get_or-set_same refl;
        idle = not_flying;
        in_pool = λ more rest. (small, omega arith, (small, omega arith, (small, omega arith, (small, omega arith, (small, omega arith, rest)))));
      }

      of_slot : AreOf slot flight.writes
      of_slot = (refl, omega arith, (refl, omega arith, (refl, omega arith, (refl, omega arith, (refl, omega arith, tt)))))

      flown_same : (e : Event) → machine.flies_first (machine.log_event s e) ≡ with_lists flown flight.writes (machine.log_event s e)
      flown_same e =
          ap (λ (o : Call (Result ℕ CxaFault)).
          with_lists o.lists (start_throw_of (words_in (lists_of s)) (heads (lists_of s)) (object_slot (reg_in s 0)) with_type).writes (machine.log_event s e)) by_lists
          ∙ ap (λ (d : Done (Result ℕ CxaFault)). with_lists flown d.writes (machine.log_event s e)) by_list_words

      fresh_keeps : Keeps x (machine.throw_gate g s).1
      fresh_keeps =
          subst (λ (o : Call (Result ℕ CxaFault)). Keeps x (machine.throw_outcome g s o.answer).1) (sym by_lists)
          (sought_keeps (λ b t. machine.throw_to g s.regs.pc (block slot) b (machine.flies_first t)) kind.Throw (machine.gate_thrown s)
          (λ e b q. subst (λ (t : Recorded). Keeps x (machine.throw_to g s.regs.pc (block slot) b t).1) (sym (flown_same e)) (flies slot flight.writes flown e b has_flown refl of_slot (more_small s.uncaught) q)))

    list_by : (slot : ℕ) (e : Entry) → object_slot (reg_in s 0) ≡ Some slot → entry (lists_of s) slot ≡ e → (r : Result ℕ CxaFault) → (throw_entry (lists_of s) slot e with_type).answer ≡ r → (machine.first_flight s).answer ≡ r
    list_by slot e is there r old =
        ap (λ (o : Option ℕ). (throw_list (lists_of s) o with_type).answer) is ∙ ap (λ (x : Entry). (throw_entry (lists_of s) slot x with_type).answer) there ∙ old

    pub throw_leaves : Keeps x (machine.throw_gate g s).1
    throw_leaves = start (object_slot (reg_in s 0)) refl
      where
        by_fresh : (slot : ℕ) → object_slot (reg_in s 0) ≡ Some slot → (st : Stage) → state_of_word (word (memory_of s) slot STATE) ≡ Some st → entry (lists_of s) slot ≡ Live (record_of st (word (memory_of s)) slot)
            → (b : Bool) → is_fresh (Some st) ≡ b → Keeps x (machine.throw_gate g s).1
        by_fresh slot is st name there true q = fresh_keeps slot is st name there q
        by_fresh slot is st name there false q =
            refused_keeps _ (list_by slot (Live (record_of st (word (memory_of s)) slot)) is there _
            (ap (λ (b : Bool). (throw_by_list b (lists_of s) slot (record_of st (word (memory_of s)) slot) with_type).answer) q))

        seen : (slot : ℕ) → object_slot (reg_in s 0) ≡ Some slot → Look (word (memory_of s)) (lists_of s) slot → Keeps x (machine.throw_gate g s).1
        seen slot is (live st name there) = by_fresh slot is st name there (is_fresh (Some st)) refl
        seen slot is (free zero there) = refused_keeps _ (list_by slot Free is there _ refl)
        seen slot is (lost used none there) = refused_keeps _ (list_by slot OutOfUse is there _ refl)

        start : (o : Option ℕ) → object_slot (reg_in s 0) ≡ o → Keeps x (machine.throw_gate g s).1
        start None is = refused_keeps _ (ap (λ (o : Option ℕ). (throw_list (lists_of s) o with_type).answer) is)
        start (Some slot) is = seen slot is (look (word (memory_of s)) (heads (lists_of s)) (lists_of s) slot c.stands.shows (object_small (reg_in s 0) slot is))

  -- ---- a rethrow of the top of the caught stack

  module _ (flies : (slot : ℕ) → slot < SLOTS → FlightKeeps g x s (machine.slot_thrown (lists_of s) (Some slot))) where
    again_refused : (why : CxaFault) → (rethrow_list (lists_of s)).answer ≡ Err why → Keeps x (machine.rethrow_gate g s).1
    again_refused why e = subst (λ (r : Result ℕ CxaFault). Keeps x (machine.rethrow_outcome g s r).1) (sym e) k

    module _ (slot : ℕ) (rest : List ℕ) (top : s.caught ≡ slot ∷ rest) (st : Stage) (name : state_of_word (word (memory_of s) slot STATE) ≡ Some st)
        (live_is : entry (lists_of s) slot ≡ Live (record_of st (word (memory_of s)) slot)) (caught : is_caught (Some st) ≡ true) where
      head : block_slot (heads (lists_of s)).caught ≡ Some slot
      head = let k = subst (λ (xs : List ℕ). Chain (λ t. word (memory_of s) t NEXT_CAUGHT) (heads (lists_of s)).caught xs) top c.stands.shows.caught in k.0

      low : slot < SLOTS
      low = slot_small (heads (lists_of s)).caught slot head

      abbrev flight_again : Done (Result ℕ CxaFault)
      flight_again = rethrow_by true (word (memory_of s)) (heads (lists_of s)) slot

      abbrev flown_again : Lists
      flown_again = record {
        entries = set s.entries slot (Live (become Flying (neg_ℤ (record_of st (word (memory_of s)) slot).count) (record_of st (word (memory_of s)) slot)));
        caught = s.caught;
        cleanups = cleanups_in s.cleanups;
        uncaught = one_more s.uncaught;
      }

      again_words : rethrow_of (word (memory_of s)) (heads (lists_of s)) ≡ flight_again
      again_words =
          ap (rethrow_at (word (memory_of s)) (heads (lists_of s))) head ∙ ap (λ n. rethrow_by (is_caught n) (word (memory_of s)) (heads (lists_of s)) slot) name
          ∙ ap (λ (b : Bool). rethrow_by b (word (memory_of s)) (heads (lists_of s)) slot) caught

      again_list_words : (rethrow_of (words_in (lists_of s)) (heads (lists_of s))).writes ≡ flight_again.writes
      again_list_words =
          ap (λ (o : Option ℕ). (rethrow_at (words_in (lists_of s)) (heads (lists_of s)) o).writes) head
          ∙ ap (λ n. (rethrow_by (is_caught n) (words_in (lists_of s)) (heads (lists_of s)) slot).writes) ((same_slot (word (memory_of s)) (heads (lists_of s)) (lists_of s) c.stands slot low).state ∙ name)
          ∙ ap (λ (b : Bool). (rethrow_by b (words_in (lists_of s)) (heads (lists_of s)) slot).writes) caught
          ∙ ap (λ (n : ℕ). write slot COUNT (negated_count n) ∷ (write slot STATE FLYING ∷ [])) (same_count (word (memory_of s)) (heads (lists_of s)) (lists_of s) c.stands slot st low live_is)

      again_lists : ◌≡◌ {A = Call (Result ℕ CxaFault)} (rethrow_list (lists_of s)) (record { answer = Ok (block slot); lists = flown_again })
      again_lists =
          ap (rethrow_from (lists_of s)) top ∙ ap (rethrow_entry (lists_of s) slot) live_is ∙ ap (λ (b : Bool). rethrow_by_list b (lists_of s) slot (record_of st (word (memory_of s)) slot)) caught

      not_again : Has (slots (cleanups_in s.cleanups)) slot → ⊥
      not_again h =
          let f = c.stands.valid.flying slot h in
          let p : Some st ≡ Some Flying = sym (ap state_in live_is) ∙ f in
          let q : Caught ≡ Flying = sym (caught_is st caught) ∙ one_state st Flying p in
          absurd (cc)

      again_stands : Stands (word (set_slot_words flight_again.writes (memory_of s))) (heads flown_again) flown_again
      again_stands =
          let middle = set_slot_words flight_again.writes (memory_of s) in
          let f = rethrow_meets (memory_of s) middle (heads (lists_of s)) flight_again.globals flight_again.answer c.map (ap (λ (d : Done (Result ℕ CxaFault)). call_result d (memory_of s)) (sym again_words)) (lists_of s) c.stands in
          subst (λ (o : Call (Result ℕ CxaFault)). Stands (word middle) (heads flown_again) o.lists) again_lists f.stands

      again_flown : HasFlown s slot flight_again.writes flown_again
      again_flown = record {
        small = low;
        stands = again_stands;
        cleanups = refl;
        flies = let h = low in let z = c.stands.shows.sized in let inside : slot < length s.entries = omega arith in rw get_or-set_same refl;
        idle = not_again;
        in_pool = λ more rest. (low, omega arith, (low, omega arith, rest));
      }

      again_same : (e : Event) → machine.flies_again (machine.log_event s e) ≡ with_lists flown_again flight_again.writes (machine.log_event s e)
      again_same e =
          ap (λ (o : Call (Result ℕ CxaFault)). with_lists o.lists (rethrow_of (words_in (lists_of s)) (heads (lists_of s))).writes (machine.log_event s e)) again_lists
          ∙ ap (λ (ws : List Write). with_lists flown_again ws (machine.log_event s e)) again_list_words

      is_slot : block_slot (block slot) ≡ Some slot
      is_slot = slot_of_block_is slot low

      caught_keeps : Keeps x (machine.rethrow_gate g s).1
      caught_keeps =
          subst (λ (o : Call (Result ℕ CxaFault)). Keeps x (machine.rethrow_outcome g s o.answer).1) (sym again_lists)
          (subst (λ (o : Option ℕ). Keeps x (machine.from_barrier (λ b t. machine.throw_to g s.regs.pc (block slot) b (machine.flies_again t)) (machine.find_barrier g s kind.Rethrow (machine.slot_thrown (lists_of s) o))).1) (sym is_slot)
          (sought_keeps (λ b t. machine.throw_to g s.regs.pc (block slot) b (machine.flies_again t)) kind.Rethrow (machine.slot_thrown (lists_of s) (Some slot))
          (λ e b q. subst (λ (t : Recorded). Keeps x (machine.throw_to g s.regs.pc (block slot) b t).1) (sym (again_same e))
          (flies slot low slot flight_again.writes flown_again e b again_flown refl (refl, omega arith, (refl, omega arith, tt)) (more_small s.uncaught) q))))

    pub rethrow_leaves : Keeps x (machine.rethrow_gate g s).1
    rethrow_leaves = start s.caught refl
      where
        by_caught : (slot : ℕ) (rest : List ℕ) → s.caught ≡ slot ∷ rest → (st : Stage) → state_of_word (word (memory_of s) slot STATE) ≡ Some st
            → entry (lists_of s) slot ≡ Live (record_of st (word (memory_of s)) slot) → (b : Bool) → is_caught (Some st) ≡ b → Keeps x (machine.rethrow_gate g s).1
        by_caught slot rest top st name there true q = caught_keeps slot rest top st name there q
        by_caught slot rest top st name there false q =
            again_refused _ (ap (λ (xs : List ℕ). (rethrow_from (lists_of s) xs).answer) top ∙ ap (λ (x : Entry). (rethrow_entry (lists_of s) slot x).answer) there
            ∙ ap (λ (b : Bool). (rethrow_by_list b (lists_of s) slot (record_of st (word (memory_of s)) slot)).answer) q)

        seen : (slot : ℕ) (rest : List ℕ) → s.caught ≡ slot ∷ rest → Look (word (memory_of s)) (lists_of s) slot → Keeps x (machine.rethrow_gate g s).1
        seen slot rest top (live st name there) = by_caught slot rest top st name there (is_caught (Some st)) refl
        seen slot rest top (free zero there) =
            again_refused _ (ap (λ (xs : List ℕ). (rethrow_from (lists_of s) xs).answer) top ∙ ap (λ (x : Entry). (rethrow_entry (lists_of s) slot x).answer) there)
        seen slot rest top (lost used none there) =
            again_refused _ (ap (λ (xs : List ℕ). (rethrow_from (lists_of s) xs).answer) top ∙ ap (λ (x : Entry). (rethrow_entry (lists_of s) slot x).answer) there)

        start : (xs : List ℕ) → s.caught ≡ xs → Keeps x (machine.rethrow_gate g s).1
        start [] top = again_refused _ (ap (λ (ys : List ℕ). (rethrow_from (lists_of s) ys).answer) top)
        start (slot ∷ rest) top =
            let k = subst (λ (ys : List ℕ). Chain (λ t. word (memory_of s) t NEXT_CAUGHT) (heads (lists_of s)).caught ys) top c.stands.shows.caught in
            seen slot rest top (look (word (memory_of s)) (heads (lists_of s)) (lists_of s) slot c.stands.shows (slot_small (heads (lists_of s)).caught slot k.0))
