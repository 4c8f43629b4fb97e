-- A throw does the same over bytes and with recorded activations, where the frames of both agree.
use Rattle.std.proofs.Common.{◌≡◌, ℕ, ◌^◌, ◌<◌, Bool, true, false, cond, length, set, Option, Some, None, Result, Ok, Err, refl, sym, ap, subst, ◌∙◌, arith, get_or-set_same}
use Rattle.eh_bus.specs.Lists.{Has}
use Rattle.eh_cxa.specs.declared.globals.CxaFault.{CxaFault}
use Rattle.eh_cxa.specs.declared.globals.CxaFault.TheVariants.{BadObject}
use Rattle.eh_cxa.specs.declared.layout.TheConstants.{SLOTS, STATE}
use Rattle.eh_cxa.specs.declared.state.State.{State as Stage}
use Rattle.eh_cxa.specs.declared.state.State.TheVariants.{Fresh, Flying}
use Rattle.eh_cxa.specs.Allocate.{size_at}
use Rattle.eh_cxa.specs.States.{state_of_word, is_fresh}
use Rattle.eh_cxa.specs.Lists.{Entry, Free, OutOfUse, Live, Lists, entry, slots, state_in}
use Rattle.eh_cxa.specs.Lists.{Outcome as Call}
use Rattle.eh_cxa.specs.ListCalls.{size_in, record_of_throw, throw_by_list, throw_entry, throw_list}
use Rattle.eh_cxa.specs.Throw.{Throw, throw_by, start_throw_of, throw_fault}
use Rattle.eh_cxa.specs.Stands.{record_of, Stands}
use Rattle.eh_cxa.specs.Words.{Done, word, block, object_slot, set_slot_words, call_result, one_more}
use Rattle.eh_cxa.proofs.Looking.{Look, live, free, lost, look, fresh_is, one_state}
use Rattle.eh_cxa.proofs.Meets.{throw_meets}
use Rattle.eh_cxa.proofs.Pools.{object_small}
use Rattle.eh_phase.specs.declared.phase1.Barrier.{Barrier}
use Rattle.eh_phase.specs.declared.phase1.Found.TheVariants as found
use Rattle.eh_trace.specs.Trace.{push_event}
use Rattle.eh_trace.specs.declared.event.Event.{Event}
use Rattle.eh_trace.specs.declared.event.EventKind.TheVariants as kind
use Rattle.eh_gates.specs.State.{State, Tables, Outcome, log_event}
use Rattle.eh_gates.specs.Gates.{gate_of}
use Rattle.eh_gates.specs.Throwing as bytes
use Rattle.sim_machines.specs.Activations.{Recorded, reg_in, memory_of, heads, with_lists, words_in, bytes_of, lists_of, cleanups_in}
use Rattle.sim_machines.specs.ActivationMachine as machine
use Rattle.sim_machines.specs.Corresponds.{Corresponds, GateMatches}
use Rattle.sim_machines.specs.Throws.{SeesAlike, CanLand, ThrowsMatch}
use Rattle.sim_machines.proofs.Flying.{HasFlown, flown_bytes, flies_match, sought_match}
use Rattle.sim_machines.proofs.InStep.{same_slot}

module _ (g : Tables) (s : Recorded) (c : Corresponds s) (ty : reg_in s 1 < 2 ^ 32) (destructor : reg_in s 2 < 2 ^ 32) (sees : SeesAlike g s) where
  abbrev with_type : Throw
  with_type = machine.thrown_words s

  -- ---- an exception that is thrown

  module _ (slot : ℕ) (is : object_slot (reg_in s 0) ≡ Some slot) (st : Stage) (name : state_of_word (word (memory_of s) slot STATE) ≡ Some st)
      (live_is : entry (lists_of s) slot ≡ Live (record_of st (word (memory_of s)) slot)) (fresh : is_fresh (Some st) ≡ true) where
    small : slot < SLOTS
    small = object_small (reg_in s 0) slot is

    abbrev flight : Done (Result ℕ CxaFault)
    flight = throw_by true (heads (lists_of s)) slot with_type

    abbrev flown : Lists
    flown = record {
      entries = set s.entries slot (Live (record_of_throw with_type (record_of st (word (memory_of s)) slot)));
      caught = s.caught;
      cleanups = cleanups_in s.cleanups;
      uncaught = one_more s.uncaught;
    }

    by_words : start_throw_of (word (memory_of s)) (heads (lists_of s)) (object_slot (reg_in s 0)) with_type ≡ flight
    by_words =
        ap (λ (o : Option ℕ). start_throw_of (word (memory_of s)) (heads (lists_of s)) o with_type) is
        ∙ ap (λ n. throw_by (is_fresh n) (heads (lists_of s)) slot with_type) name ∙ ap (λ (b : Bool). throw_by b (heads (lists_of s)) slot with_type) fresh

    by_list_words : start_throw_of (words_in (lists_of s)) (heads (lists_of s)) (object_slot (reg_in s 0)) with_type ≡ flight
    by_list_words =
        ap (λ (o : Option ℕ). start_throw_of (words_in (lists_of s)) (heads (lists_of s)) o with_type) is
        ∙ ap (λ n. throw_by (is_fresh n) (heads (lists_of s)) slot with_type) ((same_slot (word (memory_of s)) (heads (lists_of s)) (lists_of s) c.stands slot small).state ∙ name)
        ∙ ap (λ (b : Bool). throw_by b (heads (lists_of s)) slot with_type) fresh

    by_lists : ◌≡◌ {A = Call (Result ℕ CxaFault)} (machine.first_flight s) (record { answer = Ok (block slot); lists = flown })
    by_lists =
        ap (λ (o : Option ℕ). throw_list (lists_of s) o with_type) is ∙ ap (λ (e : Entry). throw_entry (lists_of s) slot e with_type) live_is
        ∙ ap (λ (b : Bool). throw_by_list b (lists_of s) slot (record_of st (word (memory_of s)) slot) with_type) fresh

    not_flying : Has (slots (cleanups_in s.cleanups)) slot → ⊥
    not_flying h =
        let f = c.stands.valid.flying slot h in
        let p : Some st ≡ Some Flying = sym (ap state_in live_is) ∙ f in
        let q : Fresh ≡ Flying = sym (fresh_is st fresh) ∙ one_state st Flying p in
        absurd (cc)

    stands_flown : Stands (word (set_slot_words flight.writes (memory_of s))) (heads flown) flown
    stands_flown =
        let middle = set_slot_words flight.writes (memory_of s) in
        let f = throw_meets (memory_of s) middle (heads (lists_of s)) flight.globals flight.answer (reg_in s 0) with_type c.map (record { ty = ty; destructor = destructor })
        (ap (λ (d : Done (Result ℕ CxaFault)). call_result d (memory_of s)) (sym by_words)) (lists_of s) c.stands in
        subst (λ (o : Call (Result ℕ CxaFault)). Stands (word middle) (heads flown) o.lists) by_lists f.stands

    has_flown : HasFlown s slot flight.writes flown
    has_flown = record {
      small = small;
      stands = stands_flown;
      cleanups = refl;
      flies = let h = small in let z = c.stands.shows.sized in let inside : slot < length s.entries = omega arith in rw get_or-set_same refl;
      idle = not_flying;
      in_pool = λ more rest. (small, omega arith, (small, omega arith, (small, omega arith, (small, omega arith, (small, omega arith, rest)))));
    }

    module _ (can : (b : Barrier) → machine.phase1_result g s (machine.gate_thrown s) ≡ found.Barrier b → CanLand g s s.regs.pc slot b) where
      abbrev on_bytes : Barrier → State → Outcome
      on_bytes b t = bytes.flies g t (reg_in s 0) (bytes.first_flight t) b

      abbrev on_lists : Barrier → Recorded → machine.Outcome
      on_lists b t = machine.throw_to g s.regs.pc (block slot) b (machine.flies_first t)

      flies_same : (e : Event) (b : Barrier) → on_bytes b (log_event (bytes_of s) e) ≡ bytes.throw_to g (flown_bytes s flight.writes flown e) s.regs.pc (block slot) b
      flies_same e b = ap (λ (d : Done (Result ℕ CxaFault)). bytes.flies g (log_event (bytes_of s) e) (reg_in s 0) d b) by_words

      flown_same : (e : Event) → machine.flies_first (machine.log_event s e) ≡ with_lists flown flight.writes (machine.log_event s e)
      flown_same e =
          ap (λ (o : Call (Result ℕ CxaFault)).
          with_lists o.lists (start_throw_of (words_in (lists_of s)) (heads (lists_of s)) (object_slot (reg_in s 0)) with_type).writes (machine.log_event s e)) by_lists
          ∙ ap (λ (d : Done (Result ℕ CxaFault)). with_lists flown d.writes (machine.log_event s e)) by_list_words

      flies : (e : Event) (b : Barrier) → machine.phase1_result g s (machine.gate_thrown s) ≡ found.Barrier b → GateMatches (on_bytes b (log_event (bytes_of s) e)) (on_lists b (machine.log_event s e))
      flies e b q =
          flies_match g s c slot flight.writes flown has_flown (push_event s.events e) s.regs.pc sees.advance b (can b q) (on_bytes b (log_event (bytes_of s) e)) (machine.flies_first (machine.log_event s e)) (flies_same e b) (flown_same e)

      same_size : size_at (word (memory_of s)) (object_slot (reg_in s 0)) ≡ machine.size_of (lists_of s) (object_slot (reg_in s 0))
      same_size = ap (size_at (word (memory_of s))) is ∙ sym (ap (machine.size_of (lists_of s)) is ∙ ap size_in live_is)

      may : throw_fault (word (memory_of s)) (object_slot (reg_in s 0)) ≡ Ok tt
      may =
          ap (throw_fault (word (memory_of s))) is ∙ ap (λ n. cond (is_fresh n) (Ok tt) (Err BadObject)) name ∙ ap (λ (b : Bool). cond b (Ok tt) (Err BadObject)) fresh

      fresh_match : GateMatches (bytes.throw_gate g (bytes_of s)) (machine.throw_gate g s)
      fresh_match =
          subst (λ (r : Result (Unit {0}) CxaFault). GateMatches (bytes.throw_outcome g (bytes_of s) r) (machine.throw_gate g s)) (sym may)
          (subst (λ (o : Call (Result ℕ CxaFault)). GateMatches (bytes.throw_outcome g (bytes_of s) (Ok tt)) (machine.throw_outcome g s o.answer)) (sym by_lists)
          (sought_match g s c sees kind.Throw (machine.gate_thrown s) on_bytes on_lists same_size flies))

  -- ---- one that isn't

  refused_match : throw_fault (word (memory_of s)) (object_slot (reg_in s 0)) ≡ Err BadObject → (machine.first_flight s).answer ≡ Err BadObject
      → GateMatches (bytes.throw_gate g (bytes_of s)) (machine.throw_gate g s)
  refused_match e f =
      subst (λ (r : Result (Unit {0}) CxaFault). GateMatches (bytes.throw_outcome g (bytes_of s) r) (machine.throw_gate g s)) (sym e)
      (subst (λ (r : Result ℕ CxaFault). GateMatches (bytes.throw_outcome g (bytes_of s) (Err BadObject)) (machine.throw_outcome g s r)) (sym f) (record { same = (refl, refl); still = c }))

  fault_by : (slot : ℕ) (o : Option Stage) → object_slot (reg_in s 0) ≡ Some slot → state_of_word (word (memory_of s) slot STATE) ≡ o → is_fresh o ≡ false
      → throw_fault (word (memory_of s)) (object_slot (reg_in s 0)) ≡ Err BadObject
  fault_by slot o is name old =
      ap (throw_fault (word (memory_of s))) is ∙ ap (λ n. cond (is_fresh n) (Ok tt) (Err BadObject)) name ∙ ap (λ (b : Bool). cond b (Ok tt) (Err BadObject)) old

  list_by : (slot : ℕ) (e : Entry) → object_slot (reg_in s 0) ≡ Some slot → entry (lists_of s) slot ≡ e → (throw_entry (lists_of s) slot e with_type).answer ≡ Err BadObject → (machine.first_flight s).answer ≡ Err BadObject
  list_by slot e is there old =
      ap (λ (o : Option ℕ). (throw_list (lists_of s) o with_type).answer) is ∙ ap (λ (x : Entry). (throw_entry (lists_of s) slot x with_type).answer) there ∙ old

  gate_match : ((slot : ℕ) (b : Barrier) → object_slot (reg_in s 0) ≡ Some slot → machine.phase1_result g s (machine.gate_thrown s) ≡ found.Barrier b → CanLand g s s.regs.pc slot b)
      → GateMatches (bytes.throw_gate g (bytes_of s)) (machine.throw_gate g s)
  gate_match can = start (object_slot (reg_in s 0)) refl
    where
      by_fresh : (slot : ℕ) → object_slot (reg_in s 0) ≡ Some slot → (st : Stage) → state_of_word (word (memory_of s) slot STATE) ≡ Some st → entry (lists_of s) slot ≡ Live (record_of st (word (memory_of s)) slot)
          → (b : Bool) → is_fresh (Some st) ≡ b → GateMatches (bytes.throw_gate g (bytes_of s)) (machine.throw_gate g s)
      by_fresh slot is st name there true q = fresh_match slot is st name there q (λ b f. can slot b is f)
      by_fresh slot is st name there false q =
          refused_match (fault_by slot (Some st) is name q)
          (list_by slot (Live (record_of st (word (memory_of s)) slot)) is there
          (ap (λ (b : Bool). (throw_by_list b (lists_of s) slot (record_of st (word (memory_of s)) slot) with_type).answer) q))

      seen : (slot : ℕ) → object_slot (reg_in s 0) ≡ Some slot → Look (word (memory_of s)) (lists_of s) slot → GateMatches (bytes.throw_gate g (bytes_of s)) (machine.throw_gate g s)
      seen slot is (live st name there) = by_fresh slot is st name there (is_fresh (Some st)) refl
      seen slot is (free zero there) = refused_match (fault_by slot None is (ap state_of_word zero) refl) (list_by slot Free is there refl)
      seen slot is (lost used none there) = refused_match (fault_by slot None is none refl) (list_by slot OutOfUse is there refl)

      start : (o : Option ℕ) → object_slot (reg_in s 0) ≡ o → GateMatches (bytes.throw_gate g (bytes_of s)) (machine.throw_gate g s)
      start None is = refused_match (ap (throw_fault (word (memory_of s))) is) (ap (λ (o : Option ℕ). (throw_list (lists_of s) o with_type).answer) is)
      start (Some slot) is = seen slot is (look (word (memory_of s)) (heads (lists_of s)) (lists_of s) slot c.stands.shows (object_small (reg_in s 0) slot is))

pub throws_match : ThrowsMatch
unfolding gate_of machine.gate_of
throws_match g next s c ty destructor sees can = gate_match g s c ty destructor sees can
