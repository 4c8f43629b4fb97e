-- Where the exception of a slot flies, a landing in a handler and one in a cleanup keep what every event keeps.
use Rattle.std.proofs.Common.{◌≡◌, ℕ, ◌<◌, ◌≤◌, ◌^◌, inl, List, ◌∷◌, length, map, filter, Option, Some, refl, sym, ap, subst, ◌∙◌, arith}
use Rattle.std.specs.Prelude.{slice_index}
use Rattle.eh_bus.specs.Lists.{Has}
use Rattle.eh_cxa.specs.Cleanup.{cleanup_at}
use Rattle.eh_cxa.specs.Lists.{slots}
use Rattle.eh_cxa.specs.ListCalls.{land_list}
use Rattle.eh_cxa.specs.States.{is_flying, state_of_word}
use Rattle.eh_cxa.specs.Throw.{land_of}
use Rattle.eh_cxa.specs.Words.{Write, word, block, block_slot, set_slot_words}
use Rattle.eh_cxa.specs.declared.globals.CleanupWords.{CleanupWords}
use Rattle.eh_cxa.specs.declared.layout.TheConstants.{STATE, BARRIER_SP, BARRIER_DESCRIPTOR}
use Rattle.eh_cxa.proofs.Pools.{slot_of_block_is}
use Rattle.eh_gates.specs.Landing.{landing_registers, words_of}
use Rattle.eh_phase.specs.declared.phase2.Goal.{Goal}
use Rattle.eh_trace.specs.Trace.{push_event}
use Rattle.eh_trace.specs.declared.event.Event.{Event}
use Rattle.thumb_core.specs.declared.regs.TheConstants.{SP}
use Rattle.frame_check.specs.Accepts.{Accepted}
use Rattle.sim_machines.specs.Activations.{Activation, Recorded, release_slots, memory_of, words_in, heads, lists_of, cleanups_in, InProgress, with_words}
use Rattle.sim_machines.specs.Corresponds.{Corresponds}
use Rattle.sim_machines.specs.Landings.{IsInFlight}
use Rattle.eh_bus.specs.Memory.{stays_guarded}
use Rattle.sim_machines.specs.RecordedSlots.{AreOutside}
use Rattle.sim_machines.proofs.Beyond.{outside_stay}
use Rattle.sim_machines.specs.ActivationMachine as machine
use Rattle.sim_steps.specs.sim_relation.Chain.{StandsAt}
use Rattle.sim_steps.specs.sim_relation.Cleanups.{goal_at, IsEntered, IsWithin, AreInProgress}
use Rattle.sim_steps.specs.sim_relation.Stands.{Keeps, IsProgram}
use Rattle.sim_steps.proofs.sim_relation.CountedLists.{land_counts}
use Rattle.sim_throws.proofs.After.{entered_there, released_same, all_released_same}
use Rattle.sim_throws.proofs.Bounds.{still_in_progress}
use Rattle.sim_throws.proofs.CleanupEntered.{puts_else}
use Rattle.sim_throws.proofs.CleanupKeeps.{begins_of, begins_else_sp, begins_else_desc, word_same}
use Rattle.sim_resumes.proofs.Entering.{Entering, above, roof, left, entering_keeps}
use Rattle.sim_throws.proofs.Handler.{Wrote, wrote_one, same_goals, land_of_slot}

module _ (x : Accepted) (is : IsProgram x) (s : Recorded) (k : Keeps x s) (n : Entering x s) (slot : ℕ) (flight : IsInFlight s slot) (within : IsWithin n.sp (cleanups_in s.cleanups)) (pad : ℕ) (logs : Event) where
  is_slot : block_slot (block slot) ≡ Some slot
  is_slot = slot_of_block_is slot flight.small

  differs : (u : ℕ) → Has (slots (cleanups_in s.cleanups)) u → u ≡ slot → ⊥
  differs u h e = flight.idle (subst (Has (slots (cleanups_in s.cleanups))) e h)

  -- the slots of what is entered stay, and the words beyond the running stack
  stays : (t : Recorded) → slice_index n.r SP ≤ t.home.1 → AreOutside t.home t.beyond
      → record t { first = release_slots t.home (slice_index n.r SP) n.first; outer = map (λ (b : Activation). release_slots t.home (slice_index n.r SP) b) n.more; beyond = filter (stays_guarded t.home (slice_index n.r SP)) t.beyond }
      ≡ record t { first = n.first; outer = n.more }
  stays t low out =
      let e = n.register in
      ap (λ (f : Activation). let v : Recorded = record t { first = f; outer = map (λ (b : Activation). release_slots t.home (slice_index n.r SP) b) n.more; beyond = filter (stays_guarded t.home (slice_index n.r SP)) t.beyond } in v)
      (released_same t.home (slice_index n.r SP) n.sp n.first (omega (arith, e)) n.rest.rise.0)
      ∙ ap (λ (acts : List Activation). let v : Recorded = record t { first = n.first; outer = acts; beyond = filter (stays_guarded t.home (slice_index n.r SP)) t.beyond } in v)
      (all_released_same t.home s.home.1 (slice_index n.r SP) n.first.caller.sp n.more (let up = n.rest.rise.1 in omega (arith, e, up)) n.rest.rise.3)
      ∙ ap (λ (gs : List ℕ). let v : Recorded = record t { first = n.first; outer = n.more; beyond = gs } in v)
      (outside_stay t.home (slice_index n.r SP) t.beyond low out)

  below : slice_index n.r SP ≤ s.home.1
  below = let e = n.register in let up = n.rest.rise.1 in let top = n.rest.rise.2 in omega (arith, e, up, top)

  -- what was in progress outside it is so still
  others : (t : Recorded) → t.first ≡ n.first → t.outer ≡ n.more → Wrote slot s t → (low : ℕ) → low ≡ n.sp → AreInProgress x t low s.cleanups
  others t first outer wrote low same =
      still_in_progress x s t n.sp n.cut n.first n.more n.all first outer n.rest (above x is s k n) (roof x is s k n) wrote.stack (slice_index s.regs.r SP) low s.cleanups within
      (subst (λ (v : ℕ). IsWithin v (cleanups_in s.cleanups)) (sym same) within) (λ u h. same_goals slot s t wrote u (differs u h)) k.cleanups

  -- ---- a handler

  module _ (stands : StandsAt x n.first s.segments (landing_registers s.regs n.r pad (block slot)) (landing_registers s.regs n.r pad (block slot)).pc) where
    abbrev pub flies_on : Option ℕ → Recorded
    flies_on o = machine.log_event (machine.at_pad (machine.land_exception s o) (n.first ∷ n.more) n.r pad (block slot)) logs

    abbrev land_writes : List Write
    land_writes = land_of (words_in (lists_of s)) (Some slot)

    small_block : block slot < 2 ^ 32
    small_block = let l = flight.small in omega (arith, l)

    abbrev landed_there : Recorded
    landed_there = left x is s k n pad (block slot) small_block stands (land_list (lists_of s) slot) s.cleanups (set_slot_words land_writes (memory_of s)).segments (push_event s.events logs)

    landed_same : flies_on (Some slot) ≡ landed_there
    landed_same = ap (λ (t : Recorded). machine.log_event t logs) (stays (record (machine.land_exception s (Some slot)) { regs = landing_registers s.regs n.r pad (block slot) }) below k.beyond)

    wrote_landed : Wrote slot s landed_there
    wrote_landed = wrote_one slot land_writes s landed_there flight.small (land_of_slot slot (is_flying (state_of_word (words_in (lists_of s) slot STATE)))) k.corresponds.map refl

    pub handler_kept : Corresponds (flies_on (block_slot (block slot))) → Keeps x (flies_on (block_slot (block slot)))
    handler_kept still =
        subst (λ (o : Option ℕ). Keeps x (flies_on o)) (sym is_slot)
        (subst (Keeps x) (sym landed_same)
        (entering_keeps x is s k n pad (block slot) small_block stands (land_list (lists_of s) slot) s.cleanups (set_slot_words land_writes (memory_of s)).segments (push_event s.events logs) (land_counts (lists_of s) k.counted slot) wrote_landed.stack
        (subst Corresponds landed_same (subst (λ (o : Option ℕ). Corresponds (flies_on o)) is_slot still)) wrote_landed.map
        (others landed_there refl refl wrote_landed n.sp refl)))

  -- ---- a cleanup

  module _ (stands : StandsAt x n.first s.segments (landing_registers s.regs n.r pad 0) (landing_registers s.regs n.r pad 0).pc) (next site : ℕ)
      (entered : IsEntered x s.segments (goal_at s slot) (record { slot = slot; next = next; sp = n.sp; site = site }) n.first n.more) (bound : IsWithin (goal_at s slot).sp (cleanups_in s.cleanups)) where
    abbrev words : CleanupWords
    words = words_of n.r next site

    abbrev begin_writes : Option ℕ → List Write
    begin_writes o = (cleanup_at (heads (lists_of s)) (block slot) words o).writes

    -- the cleanup that is entered, at its place
    abbrev in_there : InProgress
    in_there = record { cleanup = record { slot = slot; next = next; sp = slice_index n.r SP; site = site }; place = length n.more }

    abbrev begun : Option ℕ → Recorded
    begun o = record (with_words (begin_writes o) s) { cleanups = in_there ∷ s.cleanups }

    abbrev pub goes_in : Option ℕ → Recorded
    goes_in o = machine.log_event (machine.at_pad (begun o) (n.first ∷ n.more) n.r pad 0) logs

    abbrev in_cleanup : Recorded
    in_cleanup = left x is s k n pad 0 (omega arith) stands (lists_of s) (in_there ∷ s.cleanups) (set_slot_words (begin_writes (Some slot)) (memory_of s)).segments (push_event s.events logs)

    begun_same : goes_in (Some slot) ≡ in_cleanup
    begun_same = ap (λ (t : Recorded). machine.log_event t logs) (stays (record (begun (Some slot)) { regs = landing_registers s.regs n.r pad 0 }) below k.beyond)

    wrote_begun : Wrote slot s in_cleanup
    wrote_begun = wrote_one slot (begin_writes (Some slot)) s in_cleanup flight.small (begins_of (heads (lists_of s)) slot words) k.corresponds.map refl

    -- the words of its barrier stay
    same_goal : goal_at in_cleanup slot ≡ goal_at s slot
    same_goal =
        let sp : word (memory_of in_cleanup) slot BARRIER_SP ≡ word (memory_of s) slot BARRIER_SP =
        word_same (set_slot_words (begin_writes (Some slot)) (memory_of s)) (memory_of in_cleanup) refl slot BARRIER_SP ∙ puts_else (begin_writes (Some slot)) (memory_of s) slot BARRIER_SP (begins_else_sp (heads (lists_of s)) slot words) in
        let desc : word (memory_of in_cleanup) slot BARRIER_DESCRIPTOR ≡ word (memory_of s) slot BARRIER_DESCRIPTOR =
        word_same (set_slot_words (begin_writes (Some slot)) (memory_of s)) (memory_of in_cleanup) refl slot BARRIER_DESCRIPTOR
        ∙ puts_else (begin_writes (Some slot)) (memory_of s) slot BARRIER_DESCRIPTOR (begins_else_desc (heads (lists_of s)) slot words) in
        ap (λ (v : ℕ). let g : Goal = record { sp = v; desc = word (memory_of in_cleanup) slot BARRIER_DESCRIPTOR } in g) sp
        ∙ ap (λ (v : ℕ). let g : Goal = record { sp = word (memory_of s) slot BARRIER_SP; desc = v } in g) desc

    entered_there_too : IsEntered x in_cleanup.segments (goal_at in_cleanup slot) in_there.cleanup n.first n.more
    entered_there_too =
        subst (λ (g : Goal). IsEntered x in_cleanup.segments g in_there.cleanup n.first n.more) (sym same_goal)
        (subst (λ (v : ℕ). IsEntered x in_cleanup.segments (goal_at s slot) (record { slot = slot; next = next; sp = v; site = site }) n.first n.more) (sym n.register)
        (entered_there s.segments in_cleanup.segments wrote_begun.stack x (goal_at s slot) (record { slot = slot; next = next; sp = n.sp; site = site }) n.first n.more n.sp n.rest.rise.0 (above x is s k n)
        (let t = n.rest.rise.2 in let r = roof x is s k n in omega (arith, t, r)) entered))

    pub cleanup_kept : Corresponds (goes_in (block_slot (block slot))) → Keeps x (goes_in (block_slot (block slot)))
    cleanup_kept still =
        subst (λ (o : Option ℕ). Keeps x (goes_in o)) (sym is_slot)
        (subst (Keeps x) (sym begun_same)
        (entering_keeps x is s k n pad 0 (omega arith) stands (lists_of s) (in_there ∷ s.cleanups) (set_slot_words (begin_writes (Some slot)) (memory_of s)).segments (push_event s.events logs)
        k.counted wrote_begun.stack (subst Corresponds begun_same (subst (λ (o : Option ℕ). Corresponds (goes_in o)) is_slot still)) wrote_begun.map (
          (let e = n.register in omega (arith, e)),
          inl (refl, entered_there_too),
          subst (λ (g : Goal). IsWithin g.sp (cleanups_in s.cleanups)) (sym same_goal) bound,
          others in_cleanup refl refl wrote_begun (slice_index n.r SP) n.register,
        )))
