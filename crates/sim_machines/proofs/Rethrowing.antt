-- A rethrow does the same over bytes and with recorded activations, where the frames of both agree.
use Rattle.std.proofs.Common.{◌≡◌, ℕ, ◌<◌, Bool, true, false, List, [], ◌∷◌, length, set, Option, Some, Result, Ok, Err, refl, sym, ap, subst, ◌∙◌, arith, get_or-set_same, neg_ℤ}
use Rattle.eh_bus.specs.Lists.{Has}
use Rattle.eh_cxa.specs.declared.globals.CxaFault.{CxaFault}
use Rattle.eh_cxa.specs.declared.globals.CxaFault.TheVariants.{NoCaught, CaughtOrder}
use Rattle.eh_cxa.specs.declared.layout.TheConstants.{SLOTS, STATE, COUNT, NEXT_CAUGHT}
use Rattle.eh_cxa.specs.declared.state.State.{State as Stage}
use Rattle.eh_cxa.specs.declared.state.State.TheVariants.{Caught, Flying}
use Rattle.eh_cxa.specs.Allocate.{size_at}
use Rattle.eh_cxa.specs.declared.state.TheConstants.{FLYING}
use Rattle.eh_cxa.specs.States.{state_of_word, is_caught}
use Rattle.eh_cxa.specs.Lists.{Entry, Live, Lists, entry, slots, state_in}
use Rattle.eh_cxa.specs.Lists.{Outcome as Call}
use Rattle.eh_cxa.specs.ListCalls.{size_in, become, rethrow_by_list, rethrow_entry, rethrow_from, rethrow_list}
use Rattle.eh_cxa.specs.Throw.{object_and_type}
use Rattle.eh_cxa.specs.Catch.{negated_count, rethrow_by, rethrow_at, rethrow_of}
use Rattle.eh_cxa.specs.Stands.{record_of, Chain, Stands}
use Rattle.eh_cxa.specs.Words.{Write, Done, write, word, block, object, block_slot, object_slot, set_slot_words, call_result, one_more}
use Rattle.eh_cxa.proofs.Looking.{Look, live, free, lost, look, caught_is, one_state}
use Rattle.eh_cxa.proofs.Meets.{rethrow_meets}
use Rattle.eh_cxa.proofs.Pools.{slot_small, slot_of_block_is, slot_of_object_is}
use Rattle.eh_phase.specs.declared.verdict.Thrown.{Thrown}
use Rattle.eh_phase.specs.declared.phase1.Barrier.{Barrier}
use Rattle.eh_phase.specs.declared.phase1.Found.TheVariants as found
use Rattle.eh_trace.specs.Trace.{push_event}
use Rattle.eh_trace.specs.declared.event.Event.{Event}
use Rattle.eh_trace.specs.declared.event.EventKind.TheVariants as kind
use Rattle.eh_gates.specs.State.{State, Tables, Outcome, log_event}
use Rattle.eh_gates.specs.Gates.{gate_of}
use Rattle.eh_gates.specs.Throwing as bytes
use Rattle.eh_gates.specs.Throwing.{from_barrier}
use Rattle.sim_machines.specs.Activations.{Recorded, memory_of, heads, with_lists, words_in, bytes_of, lists_of, cleanups_in}
use Rattle.sim_machines.specs.ActivationMachine as machine
use Rattle.sim_machines.specs.Corresponds.{Corresponds, GateMatches}
use Rattle.sim_machines.specs.Throws.{SeesAlike, CanLand, RethrowsMatch}
use Rattle.sim_machines.proofs.InStep.{same_slot, same_count}
use Rattle.sim_machines.proofs.Flying.{HasFlown, flown_bytes, flies_match, sought_match}

module _ (g : Tables) (s : Recorded) (c : Corresponds s) (sees : SeesAlike g s) where
  module _ (slot : ℕ) (rest : List ℕ) (top : s.caught ≡ slot ∷ rest) (st : Stage) (name : state_of_word (word (memory_of s) slot STATE) ≡ Some st)
      (live_is : entry (lists_of s) slot ≡ Live (record_of st (word (memory_of s)) slot)) (caught : is_caught (Some st) ≡ true) where
    head : block_slot (heads (lists_of s)).caught ≡ Some slot
    head = let k = subst (λ (xs : List ℕ). Chain (λ t. word (memory_of s) t NEXT_CAUGHT) (heads (lists_of s)).caught xs) top c.stands.shows.caught in k.0

    small : slot < SLOTS
    small = slot_small (heads (lists_of s)).caught slot head

    abbrev flight : Done (Result ℕ CxaFault)
    flight = rethrow_by true (word (memory_of s)) (heads (lists_of s)) slot

    abbrev flown : Lists
    flown = record {
      entries = set s.entries slot (Live (become Flying (neg_ℤ (record_of st (word (memory_of s)) slot).count) (record_of st (word (memory_of s)) slot)));
      caught = s.caught;
      cleanups = cleanups_in s.cleanups;
      uncaught = one_more s.uncaught;
    }

    by_words : rethrow_of (word (memory_of s)) (heads (lists_of s)) ≡ flight
    by_words =
        ap (rethrow_at (word (memory_of s)) (heads (lists_of s))) head ∙ ap (λ n. rethrow_by (is_caught n) (word (memory_of s)) (heads (lists_of s)) slot) name
        ∙ ap (λ (b : Bool). rethrow_by b (word (memory_of s)) (heads (lists_of s)) slot) caught

    by_list_words : (rethrow_of (words_in (lists_of s)) (heads (lists_of s))).writes ≡ flight.writes
    by_list_words =
        ap (λ (o : Option ℕ). (rethrow_at (words_in (lists_of s)) (heads (lists_of s)) o).writes) head
        ∙ ap (λ n. (rethrow_by (is_caught n) (words_in (lists_of s)) (heads (lists_of s)) slot).writes) ((same_slot (word (memory_of s)) (heads (lists_of s)) (lists_of s) c.stands slot small).state ∙ name)
        ∙ ap (λ (b : Bool). (rethrow_by b (words_in (lists_of s)) (heads (lists_of s)) slot).writes) caught
        ∙ ap (λ (n : ℕ). write slot COUNT (negated_count n) ∷ (write slot STATE FLYING ∷ [])) (same_count (word (memory_of s)) (heads (lists_of s)) (lists_of s) c.stands slot st small live_is)

    by_lists : ◌≡◌ {A = Call (Result ℕ CxaFault)} (rethrow_list (lists_of s)) (record { answer = Ok (block slot); lists = flown })
    by_lists =
        ap (rethrow_from (lists_of s)) top ∙ ap (rethrow_entry (lists_of s) slot) live_is ∙ ap (λ (b : Bool). rethrow_by_list b (lists_of s) slot (record_of st (word (memory_of s)) slot)) caught

    not_flying : Has (slots (cleanups_in s.cleanups)) slot → ⊥
    not_flying h =
        let f = c.stands.valid.flying slot h in
        let p : Some st ≡ Some Flying = sym (ap state_in live_is) ∙ f in
        let q : Caught ≡ Flying = sym (caught_is st caught) ∙ one_state st Flying p in
        absurd (cc)

    stands_flown : Stands (word (set_slot_words flight.writes (memory_of s))) (heads flown) flown
    stands_flown =
        let middle = set_slot_words flight.writes (memory_of s) in
        let f = rethrow_meets (memory_of s) middle (heads (lists_of s)) flight.globals flight.answer c.map (ap (λ (d : Done (Result ℕ CxaFault)). call_result d (memory_of s)) (sym by_words)) (lists_of s) c.stands in
        subst (λ (o : Call (Result ℕ CxaFault)). Stands (word middle) (heads flown) o.lists) by_lists f.stands

    has_flown : HasFlown s slot flight.writes flown
    has_flown = record {
      small = small;
      stands = stands_flown;
      cleanups = refl;
      flies = let h = small in let z = c.stands.shows.sized in let inside : slot < length s.entries = omega arith in rw get_or-set_same refl;
      idle = not_flying;
      in_pool = λ more rest. (small, omega arith, (small, omega arith, rest));
    }

    abbrev again : Thrown
    again = machine.slot_thrown (lists_of s) (Some slot)

    module _ (can : (b : Barrier) → machine.phase1_result g s again ≡ found.Barrier b → CanLand g s s.regs.pc slot b) where
      abbrev on_bytes : Barrier → State → Outcome
      on_bytes b t = bytes.flies g t (block slot) (bytes.second_flight t) b

      abbrev on_lists : Barrier → Recorded → machine.Outcome
      on_lists b t = machine.throw_to g s.regs.pc (block slot) b (machine.flies_again t)

      flies_same : (e : Event) (b : Barrier) → on_bytes b (log_event (bytes_of s) e) ≡ bytes.throw_to g (flown_bytes s flight.writes flown e) s.regs.pc (block slot) b
      flies_same e b = ap (λ (d : Done (Result ℕ CxaFault)). bytes.flies g (log_event (bytes_of s) e) (block slot) d b) by_words

      flown_same : (e : Event) → machine.flies_again (machine.log_event s e) ≡ with_lists flown flight.writes (machine.log_event s e)
      flown_same e =
          ap (λ (o : Call (Result ℕ CxaFault)). with_lists o.lists (rethrow_of (words_in (lists_of s)) (heads (lists_of s))).writes (machine.log_event s e)) by_lists
          ∙ ap (λ (ws : List Write). with_lists flown ws (machine.log_event s e)) by_list_words

      flies : (e : Event) (b : Barrier) → machine.phase1_result g s again ≡ found.Barrier b → GateMatches (on_bytes b (log_event (bytes_of s) e)) (on_lists b (machine.log_event s e))
      flies e b q =
          flies_match g s c slot flight.writes flown has_flown (push_event s.events e) s.regs.pc sees.advance b (can b q) (on_bytes b (log_event (bytes_of s) e)) (machine.flies_again (machine.log_event s e)) (flies_same e b) (flown_same e)

      same_size : size_at (word (memory_of s)) (object_slot (object slot)) ≡ machine.size_of (lists_of s) (object_slot (object slot))
      same_size =
          let o = slot_of_object_is slot small in
          ap (size_at (word (memory_of s))) o ∙ sym (ap (machine.size_of (lists_of s)) o ∙ ap size_in live_is)

      sought : GateMatches (from_barrier on_bytes (bytes.find_barrier g (bytes_of s) kind.Rethrow again)) (machine.from_barrier on_lists (machine.find_barrier g s kind.Rethrow again))
      sought = sought_match g s c sees kind.Rethrow again on_bytes on_lists same_size flies

      is_slot : block_slot (block slot) ≡ Some slot
      is_slot = slot_of_block_is slot small

      same_thrown : bytes.block_thrown (bytes_of s) (block slot) ≡ again
      same_thrown =
          ap (λ (o : Option ℕ). bytes.thrown_of_pair (object_and_type (word (memory_of s)) o)) is_slot
          ∙ sym (ap (λ (x : Entry). let t : Thrown = record { object = object slot; ty = machine.type_in x } in t) live_is)

      caught_match : GateMatches (bytes.rethrow_gate g (bytes_of s)) (machine.rethrow_gate g s)
      caught_match =
          subst (λ (d : Done (Result ℕ CxaFault)). GateMatches (bytes.rethrow_outcome g (bytes_of s) d.answer) (machine.rethrow_gate g s)) (sym by_words)
          (subst (λ (o : Call (Result ℕ CxaFault)). GateMatches (bytes.rethrow_outcome g (bytes_of s) (Ok (block slot))) (machine.rethrow_outcome g s o.answer)) (sym by_lists)
          (subst (λ (t : Thrown). GateMatches (from_barrier on_bytes (bytes.find_barrier g (bytes_of s) kind.Rethrow t)) (machine.rethrow_outcome g s (Ok (block slot)))) (sym same_thrown)
          (subst (λ (o : Option ℕ). GateMatches (from_barrier on_bytes (bytes.find_barrier g (bytes_of s) kind.Rethrow again))
          (machine.from_barrier on_lists (machine.find_barrier g s kind.Rethrow (machine.slot_thrown (lists_of s) o)))) (sym is_slot) sought)))

  -- ---- nothing that is caught, or a top that isn't

  same_answer : (rethrow_of (word (memory_of s)) (heads (lists_of s))).answer ≡ (rethrow_list (lists_of s)).answer
  same_answer =
      let d = rethrow_of (word (memory_of s)) (heads (lists_of s)) in
      (rethrow_meets (memory_of s) (set_slot_words d.writes (memory_of s)) (heads (lists_of s)) d.globals d.answer c.map refl (lists_of s) c.stands).same

  refused_match : (why : CxaFault) → (rethrow_list (lists_of s)).answer ≡ Err why → GateMatches (bytes.rethrow_gate g (bytes_of s)) (machine.rethrow_gate g s)
  refused_match why e =
      subst (λ (r : Result ℕ CxaFault). GateMatches (bytes.rethrow_outcome g (bytes_of s) r) (machine.rethrow_gate g s)) (sym (same_answer ∙ e))
      (subst (λ (r : Result ℕ CxaFault). GateMatches (bytes.rethrow_outcome g (bytes_of s) (Err why)) (machine.rethrow_outcome g s r)) (sym e) (record { same = (refl, refl); still = c }))

  gate_match : ((slot : ℕ) (b : Barrier) → block_slot (heads (lists_of s)).caught ≡ Some slot → machine.phase1_result g s (machine.slot_thrown (lists_of s) (Some slot)) ≡ found.Barrier b → CanLand g s s.regs.pc slot b)
      → GateMatches (bytes.rethrow_gate g (bytes_of s)) (machine.rethrow_gate g s)
  gate_match can = start s.caught refl
    where
      by_caught : (slot : ℕ) (rest : List ℕ) → s.caught ≡ slot ∷ rest → (st : Stage) → state_of_word (word (memory_of s) slot STATE) ≡ Some st
          → entry (lists_of s) slot ≡ Live (record_of st (word (memory_of s)) slot) → (b : Bool) → is_caught (Some st) ≡ b → GateMatches (bytes.rethrow_gate g (bytes_of s)) (machine.rethrow_gate g s)
      by_caught slot rest top st name there true q = caught_match slot rest top st name there q (λ b f. can slot b (head slot rest top st name there q) f)
      by_caught slot rest top st name there false q =
          refused_match CaughtOrder (ap (λ (xs : List ℕ). (rethrow_from (lists_of s) xs).answer) top ∙ ap (λ (x : Entry). (rethrow_entry (lists_of s) slot x).answer) there
          ∙ ap (λ (b : Bool). (rethrow_by_list b (lists_of s) slot (record_of st (word (memory_of s)) slot)).answer) q)

      seen : (slot : ℕ) (rest : List ℕ) → s.caught ≡ slot ∷ rest → Look (word (memory_of s)) (lists_of s) slot → GateMatches (bytes.rethrow_gate g (bytes_of s)) (machine.rethrow_gate g s)
      seen slot rest top (live st name there) = by_caught slot rest top st name there (is_caught (Some st)) refl
      seen slot rest top (free zero there) =
          refused_match CaughtOrder (ap (λ (xs : List ℕ). (rethrow_from (lists_of s) xs).answer) top ∙ ap (λ (x : Entry). (rethrow_entry (lists_of s) slot x).answer) there)
      seen slot rest top (lost used none there) =
          refused_match CaughtOrder (ap (λ (xs : List ℕ). (rethrow_from (lists_of s) xs).answer) top ∙ ap (λ (x : Entry). (rethrow_entry (lists_of s) slot x).answer) there)

      start : (xs : List ℕ) → s.caught ≡ xs → GateMatches (bytes.rethrow_gate g (bytes_of s)) (machine.rethrow_gate g s)
      start [] top = refused_match NoCaught (ap (λ (ys : List ℕ). (rethrow_from (lists_of s) ys).answer) top)
      start (slot ∷ rest) top =
          let k = subst (λ (ys : List ℕ). Chain (λ t. word (memory_of s) t NEXT_CAUGHT) (heads (lists_of s)).caught ys) top c.stands.shows.caught in
          seen slot rest top (look (word (memory_of s)) (heads (lists_of s)) (lists_of s) slot c.stands.shows (slot_small (heads (lists_of s)).caught slot k.0))

pub rethrows_match : RethrowsMatch
unfolding gate_of machine.gate_of
rethrows_match g next s c sees can = gate_match g s c sees can
