-- An exception that flies to its barrier, and the search before it: what a throw and a rethrow have in common, over bytes and with recorded
-- activations, where the frames of both agree.
use Rattle.std.proofs.Common.{◌≡◌, ℕ, ◌<◌, Bool, true, false, cond, List, [], ◌∷◌, ◌++◌, Option, Some, None, Err, refl, sym, ap, subst, ◌∙◌, arith}
use Rattle.std.specs.Prelude.{is_some}
use Rattle.eh_bus.specs.Lists.{Has}
use Rattle.eh_bus.specs.Map.{IsMap}
use Rattle.eh_bus.specs.Memory.{Memory}
use Rattle.eh_cxa.specs.declared.layout.TheConstants.{SLOTS}
use Rattle.eh_cxa.specs.declared.state.State.TheVariants.{Flying}
use Rattle.eh_cxa.specs.Allocate.{size_at}
use Rattle.eh_cxa.specs.Lists.{Cleanup, Lists, entry, slots, state_in}
use Rattle.eh_cxa.specs.declared.globals.Globals.{Globals}
use Rattle.eh_cxa.specs.Throw.{set_barrier_of}
use Rattle.eh_cxa.specs.Stands.{Stands}
use Rattle.eh_cxa.specs.Words.{Write, word, block, block_slot, object_slot, set_slot_word, set_slot_words}
use Rattle.eh_cxa.proofs.Meets.{barrier_meets}
use Rattle.eh_cxa.proofs.Pools.{slot_of_block_is, all_is_map}
use Rattle.eh_types.specs.Graph.{row_of}
use Rattle.eh_phase.specs.Calls.{meeting}
use Rattle.eh_phase.specs.Laws.{goal_of}
use Rattle.eh_phase.specs.Phases.{phase2}
use Rattle.eh_phase.specs.declared.verdict.Thrown.{Thrown}
use Rattle.eh_phase.specs.declared.phase1.Barrier.{Barrier}
use Rattle.eh_phase.specs.declared.phase1.Found.{Found}
use Rattle.eh_phase.specs.declared.phase1.Found.TheVariants as found
use Rattle.eh_phase.specs.declared.phase2.Entered.{Entered}
use Rattle.eh_trace.specs.Trace.{Trace, push_event}
use Rattle.eh_trace.specs.declared.event.Event.{Event}
use Rattle.eh_trace.specs.declared.event.EventKind.{EventKind}
use Rattle.thumb_core.specs.declared.ends.TrapKind.TheVariants as trap
use Rattle.thumb_core.specs.declared.ends.End.TheVariants as the_end
use Rattle.eh_gates.specs.State.{State, Tables, Outcome, log_event}
use Rattle.eh_gates.specs.Landing.{enter_landing}
use Rattle.eh_gates.specs.Throwing as bytes
use Rattle.eh_gates.specs.Throwing.{handler_object, barrier_words, throw_event, barrier_in, from_barrier}
use Rattle.sim_machines.specs.Activations.{Activation, Recorded, memory_of, heads, with_words, with_lists, bytes_of, first_place, lists_of, cleanups_in}
use Rattle.sim_machines.specs.ActivationMachine as machine
use Rattle.sim_machines.specs.Agreeing.{Agree}
use Rattle.sim_machines.specs.Corresponds.{Corresponds, GateMatches}
use Rattle.sim_machines.specs.Landings.{IsInFlight}
use Rattle.sim_machines.specs.Throws.{AreInPool, AdvancesAlike, SeesAlike, CanLand, ThrowsToMatch}
use Rattle.sim_machines.proofs.Agreeing.{are_one}
use Rattle.sim_machines.proofs.FirstEvent.{segments_alone}
use Rattle.sim_machines.proofs.Landed.{landings_match}
use Rattle.sim_machines.proofs.WithLists.{lists_are}

put_append : (xs ys : List Write) (m : Memory) → set_slot_words (xs ++ ys) m ≡ set_slot_words ys (set_slot_words xs m)
put_append [] ys m = refl
put_append (x ∷ xs) ys m = put_append xs ys (set_slot_word m x.slot x.place x.value)

-- what a call has left by which the exception of a slot flies: these words in the pool, and these lists
pub record HasFlown (s : Recorded) (slot : ℕ) (writes : List Write) (flown : Lists) : Type 0 where
  pub small : slot < SLOTS
  pub stands : Stands (word (set_slot_words writes (memory_of s))) (heads flown) flown
  pub cleanups : flown.cleanups ≡ cleanups_in s.cleanups
  pub flies : state_in (entry flown slot) ≡ Some Flying
  pub idle : Has (slots flown.cleanups) slot → ⊥
  pub in_pool : (more : List Write) → AreInPool more → AreInPool (writes ++ more)

-- the same over bytes, after the event of the throw
abbrev pub flown_bytes : Recorded → List Write → Lists → Event → State
flown_bytes s writes flown e = record { regs = s.regs; globals = heads flown; memory = set_slot_words writes (memory_of s); events = push_event s.events e }

module _ (g : Tables) (s : Recorded) (c : Corresponds s) where
  -- ---- to its barrier

  module _ (slot : ℕ) (writes : List Write) (flown : Lists) (flight : HasFlown s slot writes flown) (events : Trace) (site : ℕ) (alike : AdvancesAlike g s site) (b : Barrier)
      (can : CanLand g s site slot b) where
    abbrev barred : List Write
    barred = set_barrier_of (block_slot (block slot)) (barrier_words (block slot) b)

    abbrev following : Recorded
    following = with_words barred (with_lists flown writes (record s { events = events }))

    abbrev middle : Memory
    middle = set_slot_words writes (memory_of s)

    memory_is : set_slot_words barred middle ≡ memory_of following
    memory_is =
        ap (set_slot_words barred) (segments_alone writes (memory_of s)) ∙ segments_alone barred (record (memory_of s) { segments = middle.segments })

    flown_is : lists_of following ≡ flown
    flown_is = lists_are flown writes s flight.cleanups

    corresponds : Corresponds following
    corresponds = record {
      map = subst (λ (m : Memory). IsMap m) memory_is (all_is_map barred middle (all_is_map writes (memory_of s) c.map));
      stands = subst (λ (l : Lists). Stands (word (memory_of following)) (heads l) l) (sym flown_is) (subst (λ (m : Memory). Stands (word m) (heads flown) flown) memory_is
          (barrier_meets middle (set_slot_words barred middle) (block slot) (barrier_words (block slot) b) (all_is_map writes (memory_of s) c.map)
          (record { sp = can.sp; object = can.object; desc = can.desc; pointer = can.pointer }) refl (heads flown) flown flight.stands));
    }

    in_flight : IsInFlight following slot
    in_flight = record { small = flight.small; flies = flight.flies; idle = λ h. flight.idle (subst (λ (cs : List Cleanup). Has (slots cs) slot) (sym flight.cleanups) h) }

    abbrev goes : Entered
    goes = phase2 (goal_of b) 0 (machine.frames_from g s None site)

    landed_match : GateMatches (enter_landing (bytes_of following) (block slot) (handler_object (block slot) b.hit) goes) (machine.enter_landing following (can.first ∷ can.more) (block slot) (handler_object (block slot) b.hit) goes)
    landed_match = landings_match following can.cut can.first can.more slot (handler_object (block slot) b.hit) goes corresponds in_flight can.all can.lands

    barred_in : AreInPool barred
    barred_in =
        let small = flight.small in
        subst (λ (o : Option ℕ). AreInPool (set_barrier_of o (barrier_words (block slot) b))) (sym (slot_of_block_is slot small))
        (small, omega arith, (small, omega arith, (small, omega arith, (small, omega arith, (small, omega arith, (small, omega arith, tt))))))

    abbrev after : Memory → State
    after m = record { regs = s.regs; globals = heads flown; memory = m; events = events }

    bytes_same : bytes.throw_to g (after middle) site (block slot) b ≡ enter_landing (bytes_of following) (block slot) (handler_object (block slot) b.hit) goes
    unfolding bytes.throw_to
    bytes_same =
        let one = are_one (bytes.frames_from g (after (set_slot_words barred middle)) None site) (machine.frames_from g s None site)
        (subst (λ (m : Memory). Agree (bytes.frames_from g (after m) None site) (machine.frames_from g s None site)) (put_append writes barred (memory_of s))
        (alike (writes ++ barred) (flight.in_pool barred barred_in))) in
        one.bytes (goal_of b) 0 (after (set_slot_words barred middle)) (block slot) (handler_object (block slot) b.hit)
        ∙ ap (λ (m : Memory). enter_landing (after m) (block slot) (handler_object (block slot) b.hit) goes) memory_is
        ∙ ap (λ (k : Globals). enter_landing (record { regs = s.regs; globals = k; memory = memory_of following; events = events }) (block slot) (handler_object (block slot) b.hit) goes)
        (sym (ap heads flown_is))

    recorded_same : machine.throw_to g site (block slot) b (with_lists flown writes (record s { events = events })) ≡ machine.enter_landing following (can.first ∷ can.more) (block slot) (handler_object (block slot) b.hit) goes
    unfolding machine.throw_to
    recorded_same = ap (λ (acts : List Activation). machine.enter_landing following acts (block slot) (handler_object (block slot) b.hit) goes) can.passed

    thrown_match : GateMatches (bytes.throw_to g (after middle) site (block slot) b) (machine.throw_to g site (block slot) b (with_lists flown writes (record s { events = events })))
    thrown_match =
        subst (λ (o : Outcome). GateMatches o (machine.throw_to g site (block slot) b (with_lists flown writes (record s { events = events })))) (sym bytes_same)
        (subst (λ (q : machine.Outcome). GateMatches (enter_landing (bytes_of following) (block slot) (handler_object (block slot) b.hit) goes) q) (sym recorded_same) landed_match)

    -- .. however it was said
    pub flies_match : (o : Outcome) (t : Recorded) → o ≡ bytes.throw_to g (after middle) site (block slot) b → t ≡ with_lists flown writes (record s { events = events })
        → GateMatches o (machine.throw_to g site (block slot) b t)
    flies_match o t on_bytes on_lists =
        subst (λ (x : Outcome). GateMatches x (machine.throw_to g site (block slot) b t)) (sym on_bytes)
        (subst (λ (y : Recorded). GateMatches (bytes.throw_to g (after middle) site (block slot) b) (machine.throw_to g site (block slot) b y)) (sym on_lists) thrown_match)

-- ---- the search before it

module _ (g : Tables) (s : Recorded) (c : Corresponds s) (sees : SeesAlike g s) where
  module _ (what : EventKind) (thrown : Thrown) (on_bytes : Barrier → State → Outcome) (on_lists : Barrier → Recorded → machine.Outcome)
      (same_size : size_at (word (memory_of s)) (object_slot thrown.object) ≡ machine.size_of (lists_of s) (object_slot thrown.object))
      (flies : (e : Event) (b : Barrier) → machine.phase1_result g s thrown ≡ found.Barrier b → GateMatches (on_bytes b (log_event (bytes_of s) e)) (on_lists b (machine.log_event s e))) where
    by_found : (e : Event) (f : Found) → machine.phase1_result g s thrown ≡ f
        → GateMatches (from_barrier on_bytes (barrier_in s.regs.pc f, log_event (bytes_of s) e)) (machine.from_barrier on_lists (barrier_in s.regs.pc f, machine.log_event s e))
    by_found e (found.Barrier b) q = flies e b q
    by_found e (found.Terminate why) q = record { same = (refl, refl); still = record { map = c.map; stands = c.stands } }
    by_found e (found.ObjectRead a) q = record { same = (refl, refl); still = record { map = c.map; stands = c.stands } }

    abbrev event_of : ℕ → Event
    event_of size = throw_event what (memory_of s) thrown size

    same_search : bytes.phase1_result g (bytes_of s) thrown ≡ machine.phase1_result g s thrown
    same_search = (are_one (bytes.frames_at_gate g (bytes_of s)) (machine.frames_from g s (first_place s.cleanups) s.regs.pc) sees.search).search (meeting g.image g.types s.segments thrown)

    pub sought_match : GateMatches (from_barrier on_bytes (bytes.find_barrier g (bytes_of s) what thrown)) (machine.from_barrier on_lists (machine.find_barrier g s what thrown))
    unfolding bytes.find_barrier machine.find_barrier
    sought_match = by_row (is_some (row_of g.types thrown.ty))
      where
        by_row : (row : Bool) → GateMatches (from_barrier on_bytes (cond row
            (barrier_in s.regs.pc (bytes.phase1_result g (bytes_of s) thrown), log_event (bytes_of s) (event_of (size_at (word (memory_of s)) (object_slot thrown.object))))
            (Err (the_end.Trap trap.BadType thrown.ty s.regs.pc), bytes_of s)))
            (machine.from_barrier on_lists (cond row
            (barrier_in s.regs.pc (machine.phase1_result g s thrown), machine.log_event s (event_of (machine.size_of (lists_of s) (object_slot thrown.object))))
            (Err (the_end.Trap trap.BadType thrown.ty s.regs.pc), s)))
        by_row false = record { same = (refl, refl); still = c }
        by_row true =
            subst (λ (n : ℕ). GateMatches (from_barrier on_bytes (barrier_in s.regs.pc (bytes.phase1_result g (bytes_of s) thrown), log_event (bytes_of s) (event_of n)))
            (machine.from_barrier on_lists (barrier_in s.regs.pc (machine.phase1_result g s thrown), machine.log_event s (event_of (machine.size_of (lists_of s) (object_slot thrown.object)))))) (sym same_size)
            (subst (λ (f : Found). GateMatches (from_barrier on_bytes (barrier_in s.regs.pc f, log_event (bytes_of s) (event_of (machine.size_of (lists_of s) (object_slot thrown.object)))))
            (machine.from_barrier on_lists (barrier_in s.regs.pc (machine.phase1_result g s thrown), machine.log_event s (event_of (machine.size_of (lists_of s) (object_slot thrown.object)))))) (sym same_search)
            (by_found (event_of (machine.size_of (lists_of s) (object_slot thrown.object))) (machine.phase1_result g s thrown) refl))

-- ---- from any site

pub throws_to_match : ThrowsToMatch
throws_to_match g s site slot b c f alike can =
    flies_match g s c slot [] (lists_of s) (record { small = f.small; stands = c.stands; cleanups = refl; flies = f.flies; idle = f.idle; in_pool = λ more rest. rest }) s.events site alike b can
    (bytes.throw_to g (bytes_of s) site (block slot) b) s refl refl
