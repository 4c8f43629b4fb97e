-- After the landing of a throw in a handler what every event keeps is kept.
use Rattle.std.proofs.Common.{◌≡◌, ℕ, ◌+◌, ◌<◌, ◌≤◌, List, [], ◌∷◌, arith, refl, sym, ap, subst, ◌∙◌, Some, Bool, true, false, ◌^◌, Option}
use Rattle.std.specs.Prelude.{slice_index}
use Rattle.eh_bus.specs.Map.{SameMap, IsMap}
use Rattle.eh_bus.specs.Memory.{load_number, Memory}
use Rattle.eh_bus.specs.declared.map.TheConstants.{STACK_START, STACK_END}
use Rattle.eh_cxa.specs.Words.{word, Write, set_slot_words, block, block_slot}
use Rattle.eh_cxa.specs.declared.layout.TheConstants.{SLOT_WORDS, SLOTS, BARRIER_SP, BARRIER_DESCRIPTOR, STATE}
use Rattle.sim_machines.specs.Activations.{Recorded, memory_of, with_words, Activation, words_in, with_lists, cleanups_in, lists_of}
use Rattle.sim_machines.specs.Throws.{AreInPool}
use Rattle.eh_bus.specs.Segment.{Segment}
use Rattle.eh_bus.proofs.MapLaws.{map_trans}
use Rattle.eh_cxa.proofs.Pools.{all_is_map, slot_of_block_is}
use Rattle.sim_machines.proofs.FirstEvent.{segments_alone}
use Rattle.eh_phase.specs.declared.phase2.Goal.{Goal}
use Rattle.eh_cxa.specs.Throw.{set_barrier_of, land_by, land_of}
use Rattle.eh_cxa.specs.declared.globals.BarrierWords.{BarrierWords}
use Rattle.eh_bus.specs.Lists.{Has}
use Rattle.eh_cxa.specs.Lists.{Lists, Cleanup, slots}
use Rattle.eh_cxa.specs.ListCalls.{land_list}
use Rattle.eh_cxa.specs.States.{is_flying, state_of_word}
use Rattle.eh_trace.specs.Trace.{push_event}
use Rattle.eh_trace.specs.declared.event.Event.{Event}
use Rattle.thumb_core.specs.declared.regs.TheConstants.{SP}
use Rattle.sim_machines.specs.frame_check.Accepts.{Accepted}
use Rattle.sim_machines.specs.Corresponds.{Corresponds}
use Rattle.sim_machines.proofs.Flying.{HasFlown}
use Rattle.sim_machines.proofs.Beyond.{outside_stay}
use Rattle.sim_machines.specs.ActivationMachine as machine
use Rattle.sim_throws.proofs.Bounds.{AreOf, puts_other, still_in_progress}
use Rattle.sim_frames.proofs.Agreement.{pool_stack}
use Rattle.sim_throws.proofs.After.{pool_map, Enters, left, landed_keeps, released_same, all_released_same}
use Rattle.sim_frames.specs.sim_relation.Cleanups.{goal_at, IsWithin}
use Rattle.sim_frames.specs.sim_relation.Stands.{Keeps, IsProgram, IsCounted}
use Rattle.sim_frames.proofs.sim_relation.CountedLists.{land_counts}
use Rattle.sim_frames.specs.Frames.{IsSiteOf}
use Rattle.sim_frames.specs.Landings.{Offers}

-- ---- words of one slot of the pool

pub record Wrote (slot : ℕ) (r t : Recorded) : Type 0 where
  pub stack : (g : ℕ) → STACK_START ≤ g → g + 4 ≤ STACK_END → load_number 4 t.segments g ≡ load_number 4 r.segments g
  pub map : SameMap r.segments t.segments
  pub words : (u j : ℕ) → (u ≡ slot → ⊥) → j < SLOT_WORDS → word (memory_of t) u j ≡ word (memory_of r) u j

of_pool : (slot : ℕ) (ws : List Write) → slot < SLOTS → AreOf slot ws → AreInPool ws
of_pool slot [] l h = tt
of_pool slot (w ∷ more) l h = (let e = h.0 in omega (arith, e, l), h.1, of_pool slot more l h.2)

same_words : (m n : Memory) → n.segments ≡ m.segments → (u j : ℕ) → word n u j ≡ word m u j
unfolding word
same_words m n e u j = rw e refl

pub wrote_one : (slot : ℕ) (ws : List Write) (r t : Recorded) → slot < SLOTS → AreOf slot ws → IsMap (memory_of r) → t.segments ≡ (set_slot_words ws (memory_of r)).segments → Wrote slot r t
wrote_one slot ws r t l h is e = record {
  stack = λ g low high. ap (λ (ss : List Segment). load_number 4 ss g) e ∙ pool_stack ws (memory_of r) (of_pool slot ws l h) g low;
  map = subst (SameMap r.segments) (sym e) (pool_map ws (memory_of r) (of_pool slot ws l h) is);
  words = λ u j differ k. same_words (set_slot_words ws (memory_of r)) (memory_of t) e u j ∙ puts_other ws (memory_of r) slot u j h differ k;
}

pub wrote_then : (slot : ℕ) (r t v : Recorded) → Wrote slot r t → Wrote slot t v → Wrote slot r v
wrote_then slot r t v a b = record {
  stack = λ g low high. b.stack g low high ∙ a.stack g low high;
  map = map_trans r.segments t.segments v.segments a.map b.map;
  words = λ u j differ k. b.words u j differ k ∙ a.words u j differ k;
}

pub map_with : (ws : List Write) (r : Recorded) → IsMap (memory_of r) → IsMap (memory_of (with_words ws r))
map_with ws r is = subst (λ (m : Memory). IsMap m) (segments_alone ws (memory_of r)) (all_is_map ws (memory_of r) is)

pub same_goals : (slot : ℕ) (r t : Recorded) → Wrote slot r t → (u : ℕ) → (u ≡ slot → ⊥) → goal_at t u ≡ goal_at r u
same_goals slot r t w u differ =
    ap (λ (n : ℕ). let g : Goal = record { sp = n; desc = word (memory_of t) u BARRIER_DESCRIPTOR } in g) (w.words u BARRIER_SP differ (omega arith))
    ∙ ap (λ (n : ℕ). let g : Goal = record { sp = word (memory_of r) u BARRIER_SP; desc = n } in g) (w.words u BARRIER_DESCRIPTOR differ (omega arith))

pub barred_of : (slot : ℕ) (b : BarrierWords) → AreOf slot (set_barrier_of (Some slot) b)
barred_of slot b = (refl, omega arith, (refl, omega arith, (refl, omega arith, (refl, omega arith, (refl, omega arith, (refl, omega arith, tt))))))

pub land_of_slot : (slot : ℕ) (b : Bool) → AreOf slot (land_by b slot)
land_of_slot slot true = (refl, omega arith, tt)
land_of_slot slot false = tt

-- ---- a handler

module _ (x : Accepted) (is : IsProgram x) (s : Recorded) (k : Keeps x s) (site : ℕ) (here : IsSiteOf x s site) (n : Enters x is s k site here) (pad : ℕ) (offers : Offers n.frame pad)
    (slot : ℕ) (writes : List Write) (flown : Lists) (flight : HasFlown s slot writes flown) (cleanups_same : flown.cleanups ≡ cleanups_in s.cleanups) (of_slot : AreOf slot writes) (counted : IsCounted flown)
    (within : IsWithin n.frame.sp (cleanups_in s.cleanups)) (e : Event) where
  abbrev pub thrown : Recorded
  thrown = with_lists flown writes (machine.log_event s e)

  -- after the words of the barrier
  abbrev pub after : BarrierWords → Recorded
  after b = with_words (set_barrier_of (Some slot) b) thrown

  map_thrown : IsMap (memory_of thrown)
  map_thrown = map_with writes s k.corresponds.map

  pub wrote_after : (b : BarrierWords) → Wrote slot s (after b)
  wrote_after b =
      wrote_then slot s thrown (after b) (wrote_one slot writes s thrown flight.small of_slot k.corresponds.map refl)
      (wrote_one slot (set_barrier_of (Some slot) b) thrown (after b) flight.small (barred_of slot b) map_thrown refl)

  pub map_after : (b : BarrierWords) → IsMap (memory_of (after b))
  map_after b = map_with (set_barrier_of (Some slot) b) thrown map_thrown

  module _ (b : BarrierWords) (logs : Event) where
    abbrev pub flies_on : Option ℕ → Recorded
    flies_on o = machine.log_event (machine.at_pad (machine.land_exception (after b) o) (n.first ∷ n.more) n.frame.r pad (block slot)) logs

    abbrev land_writes : List Write
    land_writes = land_of (words_in flown) (Some slot)

    abbrev landed : Lists
    landed = land_list (lists_of (after b)) slot

    abbrev segments : List Segment
    segments = (set_slot_words land_writes (memory_of (after b))).segments

    abbrev kept : Recorded
    kept = left x is s k site here n pad (block slot) (let l = flight.small in omega (arith, l)) offers landed s.cleanups segments (push_event (push_event s.events e) logs)
        (λ g low high. (wrote_one slot land_writes (after b) (record (after b) { segments = segments }) flight.small (land_of_slot slot (is_flying (state_of_word (words_in flown slot STATE)))) (map_after b) refl).stack g low high
        ∙ (wrote_after b).stack g low high)

    small_block : block slot < 2 ^ 32
    small_block = let l = flight.small in omega (arith, l)

    same_state : flies_on (Some slot) ≡ kept
    same_state =
        let sp = slice_index n.frame.r SP in
        let e = n.register in
        let stays : machine.at_pad (machine.land_exception (after b) (Some slot)) (n.first ∷ n.more) n.frame.r pad (block slot) ≡ record (machine.at_pad (machine.land_exception (after b) (Some slot)) (n.first ∷ n.more) n.frame.r pad (block slot)) { first = n.first; outer = n.more; beyond = s.beyond } =
        ap (λ (f : Activation). record (machine.at_pad (machine.land_exception (after b) (Some slot)) (n.first ∷ n.more) n.frame.r pad (block slot)) { first = f }) (released_same s.home sp n.frame.sp n.first (omega (arith, e)) n.rest.rise.0)
        ∙ ap (λ (acts : List Activation). record (machine.at_pad (machine.land_exception (after b) (Some slot)) (n.first ∷ n.more) n.frame.r pad (block slot)) { first = n.first; outer = acts })
        (all_released_same s.home s.home.1 sp n.first.caller.sp n.more (let up = n.rest.rise.1 in omega (arith, e, up)) n.rest.rise.3)
        ∙ ap (λ (gs : List ℕ). record (machine.at_pad (machine.land_exception (after b) (Some slot)) (n.first ∷ n.more) n.frame.r pad (block slot)) { first = n.first; outer = n.more; beyond = gs })
        (outside_stay s.home sp s.beyond (let up = n.rest.rise.1 in let top = n.rest.rise.2 in omega (arith, e, up, top)) k.beyond) in
        ap (λ (r : Recorded). machine.log_event r logs) stays

    wrote : Wrote slot s kept
    wrote = wrote_then slot s (after b) kept (wrote_after b) (wrote_one slot land_writes (after b) kept flight.small (land_of_slot slot (is_flying (state_of_word (words_in flown slot STATE)))) (map_after b) refl)

    differs : (u : ℕ) → Has (slots (cleanups_in s.cleanups)) u → u ≡ slot → ⊥
    differs u h e = flight.idle (subst (λ (cs : List Cleanup). Has (slots cs) slot) (sym cleanups_same) (subst (Has (slots (cleanups_in s.cleanups))) e h))

    -- what every event keeps
    pub handler_keeps : Corresponds (flies_on (block_slot (block slot))) → Keeps x (flies_on (block_slot (block slot)))
    handler_keeps still =
        subst (λ (o : Option ℕ). Keeps x (flies_on o)) (sym is_slot)
        (subst (Keeps x) (sym same_state)
        (landed_keeps x is s k site here n pad (block slot) small_block offers landed s.cleanups segments (push_event (push_event s.events e) logs) wrote.stack (land_counts (lists_of (after b)) counted slot)
        (subst Corresponds same_state (subst (λ (o : Option ℕ). Corresponds (flies_on o)) is_slot still)) wrote.map
        (still_in_progress x s kept n.frame.sp n.cut n.first n.more n.all refl refl n.rest
        (let a = k.corresponds.map.home.low in let b = k.low in let c = n.low in omega (arith, a, b, c)) k.corresponds.map.home.high wrote.stack
        (slice_index s.regs.r SP) n.frame.sp s.cleanups within within (λ u h. same_goals slot s kept wrote u (differs u h)) k.cleanups)))
      where
        is_slot : block_slot (block slot) ≡ Some slot
        is_slot = slot_of_block_is slot flight.small
