-- After the landing of a throw in a cleanup what every event keeps is kept, where the barrier is within reach from the cleanup on.
use Rattle.std.proofs.Common.{ℕ, Some, refl, arith, ◌≡◌, ap, ◌^◌, ◌<◌, ◌≤◌, inl, true, List, ◌∷◌, length, Option, None, sym, subst, ◌∙◌}
use Rattle.std.specs.Prelude.{slice_index}
use Rattle.eh_cxa.specs.Cleanup.{cleanup_at}
use Rattle.eh_cxa.specs.Words.{block, word, Write, block_slot, set_slot_words}
use Rattle.eh_cxa.specs.declared.globals.CleanupWords.{CleanupWords}
use Rattle.eh_cxa.specs.declared.globals.Globals.{Globals}
use Rattle.eh_cxa.specs.declared.layout.TheConstants.{BARRIER_SP, BARRIER_DESCRIPTOR}
use Rattle.eh_bus.specs.Memory.{Memory}
use Rattle.frame_entries.specs.Scopes.{pad_of}
use Rattle.sim_machines.specs.frame_check.Accepts.{Accepted}
use Rattle.sim_machines.specs.Activations.{Recorded, Activation, memory_of, heads, with_words, with_lists, frames_at, cleanups_in, InProgress, lists_of}
use Rattle.eh_bus.specs.Lists.{Has}
use Rattle.eh_bus.specs.Map.{IsMap}
use Rattle.eh_bus.specs.Segment.{Segment}
use Rattle.eh_bus.specs.declared.map.TheConstants.{STACK_START}
use Rattle.eh_cxa.specs.Lists.{Lists, Cleanup, slots}
use Rattle.eh_cxa.specs.declared.globals.BarrierWords.{BarrierWords}
use Rattle.eh_cxa.specs.Throw.{set_barrier_of}
use Rattle.eh_cxa.proofs.Pools.{slot_of_block_is}
use Rattle.eh_gates.specs.Landing.{words_of}
use Rattle.eh_gates.specs.Resuming.{goal_in}
use Rattle.eh_phase.specs.Cleanups.{is_reached}
use Rattle.eh_phase.specs.declared.phase2.Goal.{Goal}
use Rattle.eh_trace.specs.Trace.{push_event}
use Rattle.eh_trace.specs.declared.event.Event.{Event}
use Rattle.thumb_core.specs.declared.regs.TheConstants.{SP}
use Rattle.sim_frames.specs.frame_flow.Causes.{is_call}
use Rattle.sim_machines.specs.Corresponds.{Corresponds}
use Rattle.sim_machines.proofs.Flying.{HasFlown}
use Rattle.sim_machines.proofs.Beyond.{outside_stay}
use Rattle.sim_machines.specs.ActivationMachine as machine
use Rattle.sim_throws.proofs.Bounds.{AreOf, still_in_progress}
use Rattle.sim_throws.proofs.CleanupEntered.{AreElse, puts_else, barrier_sp, barrier_desc, cleanup_entered}
use Rattle.sim_frames.specs.sim_relation.Stands.{Keeps, IsProgram, IsCounted}
use Rattle.sim_frames.specs.Frames.{IsSiteOf}
use Rattle.sim_throws.proofs.After.{Enters, left, landed_keeps, entered_there, released_same, all_released_same}
use Rattle.sim_frames.specs.Landings.{Offers, IsCleanupOf}
use Rattle.sim_frames.specs.sim_relation.Cleanups.{by_sp, goal_at, IsEntered, IsWithin, AreInProgress}
use Rattle.sim_throws.proofs.Handler.{Wrote, wrote_one, wrote_then, map_with, same_goals, wrote_after, map_after}

pub begins_of : (g : Globals) (slot : ℕ) (w : CleanupWords) → AreOf slot (cleanup_at g (block slot) w (Some slot)).writes
begins_of g slot w = (refl, omega arith, (refl, omega arith, (refl, omega arith, (refl, omega arith, tt))))

pub begins_else_sp : (g : Globals) (slot : ℕ) (w : CleanupWords) → AreElse slot BARRIER_SP (cleanup_at g (block slot) w (Some slot)).writes
begins_else_sp g slot w = (refl, λ e. (omega (arith, e)), (refl, λ e. (omega (arith, e)), (refl, λ e. (omega (arith, e)), (refl, λ e. (omega (arith, e)), tt))))

pub begins_else_desc : (g : Globals) (slot : ℕ) (w : CleanupWords) → AreElse slot BARRIER_DESCRIPTOR (cleanup_at g (block slot) w (Some slot)).writes
begins_else_desc g slot w = (refl, λ e. (omega (arith, e)), (refl, λ e. (omega (arith, e)), (refl, λ e. (omega (arith, e)), (refl, λ e. (omega (arith, e)), tt))))

pub word_same : (m n : Memory) → n.segments ≡ m.segments → (u j : ℕ) → word n u j ≡ word m u j
unfolding word
word_same m n e u j = rw e refl

pub offers_of : (x : Accepted) (is : IsProgram x) (s : Recorded) (k : Keeps x s) (site : ℕ) (here : IsSiteOf x s site) (n : Enters x is s k site here) (pad next : ℕ) → IsCleanupOf n.frame pad next → Offers n.frame pad
offers_of x is s k site here n pad next c = record { before = c.before; desc = c.desc; after = c.after; items = c.items; scope = c.scope; kind = ap pad_of c.kind }

module _ (x : Accepted) (is : IsProgram x) (s : Recorded) (k : Keeps x s) (site : ℕ) (here : IsSiteOf x s site) (deep : is_call here.instr ≡ true → 4 ≤ here.at.fact.depth) (n : Enters x is s k site here) (pad next : ℕ)
    (c : IsCleanupOf n.frame pad next) (slot : ℕ) (writes : List Write) (flown : Lists) (flight : HasFlown s slot writes flown) (cleanups_same : flown.cleanups ≡ cleanups_in s.cleanups) (of_slot : AreOf slot writes) (counted : IsCounted flown)
    (within : IsWithin n.frame.sp (cleanups_in s.cleanups)) (e : Event) (b : BarrierWords) (small_sp : b.sp < 2 ^ 32) (small_desc : b.desc < 2 ^ 32) (bound : IsWithin b.sp (cleanups_in s.cleanups))
    (reach : is_reached (goal_in b) next (frames_at x.image None n.frame.site (by_sp n.frame.sp) n.first n.more).frames ≡ true) (logs : Event) where
  abbrev offers : Offers n.frame pad
  offers = offers_of x is s k site here n pad next c

  abbrev pub before_landing : Recorded
  before_landing = with_words (set_barrier_of (Some slot) b) (with_lists flown writes (machine.log_event s e))

  abbrev words : CleanupWords
  words = words_of n.frame.r next n.frame.site

  -- the cleanup that is entered, at its place
  abbrev pub entered : InProgress
  entered = record { cleanup = record { slot = slot; next = next; sp = slice_index n.frame.r SP; site = n.frame.site }; place = length n.more }

  abbrev pub goes_in : Option ℕ → Recorded
  goes_in o = machine.log_event (machine.at_pad
      (record (with_words (cleanup_at (heads (lists_of before_landing)) (block slot) words o).writes before_landing) { cleanups = entered ∷ s.cleanups })
      (n.first ∷ n.more) n.frame.r pad 0) logs

  abbrev begin_writes : List Write
  begin_writes = (cleanup_at (heads (lists_of before_landing)) (block slot) words (Some slot)).writes

  abbrev segments : List Segment
  segments = (set_slot_words begin_writes (memory_of before_landing)).segments

  to_after : Wrote slot s before_landing
  to_after = wrote_after x is s k site here n pad offers slot writes flown flight cleanups_same of_slot counted within e b

  map_there : IsMap (memory_of before_landing)
  map_there = map_after x is s k site here n pad offers slot writes flown flight cleanups_same of_slot counted within e b

  abbrev kept : Recorded
  kept = left x is s k site here n pad 0 (omega arith) offers (lists_of before_landing) (entered ∷ s.cleanups) segments (push_event (push_event s.events e) logs)
      (λ g low high. (wrote_one slot begin_writes before_landing (record before_landing { segments = segments }) flight.small (begins_of (heads (lists_of before_landing)) slot words) map_there refl).stack g low high ∙ to_after.stack g low high)

  same_state : goes_in (Some slot) ≡ kept
  same_state =
      let sp = slice_index n.frame.r SP in
      let e = n.register in
      let pads : Recorded = machine.at_pad (record (with_words begin_writes before_landing) { cleanups = entered ∷ s.cleanups }) (n.first ∷ n.more) n.frame.r pad 0 in
      let stays : pads ≡ record pads { first = n.first; outer = n.more; beyond = s.beyond } =
      ap (λ (f : Activation). record pads { first = f }) (released_same s.home sp n.frame.sp n.first (omega (arith, e)) n.rest.rise.0)
      ∙ ap (λ (acts : List Activation). record pads { first = n.first; outer = acts }) (all_released_same s.home s.home.1 sp n.first.caller.sp n.more (let up = n.rest.rise.1 in omega (arith, e, up)) n.rest.rise.3)
      ∙ ap (λ (gs : List ℕ). record pads { first = n.first; outer = n.more; beyond = gs }) (outside_stay s.home sp s.beyond (let up = n.rest.rise.1 in let top = n.rest.rise.2 in omega (arith, e, up, top)) k.beyond) in
      ap (λ (r : Recorded). machine.log_event r logs) stays

  wrote : Wrote slot s kept
  wrote = wrote_then slot s before_landing kept to_after (wrote_one slot begin_writes before_landing kept flight.small (begins_of (heads (lists_of before_landing)) slot words) map_there refl)

  differs : (u : ℕ) → Has (slots (cleanups_in s.cleanups)) u → u ≡ slot → ⊥
  differs u h e = flight.idle (subst (λ (cs : List Cleanup). Has (slots cs) slot) (sym cleanups_same) (subst (Has (slots (cleanups_in s.cleanups))) e h))

  thrown_map : IsMap (memory_of (with_lists flown writes (machine.log_event s e)))
  thrown_map = map_with writes s k.corresponds.map

  -- the words of the barrier stand in the pool
  goal_is : goal_at kept slot ≡ goal_in b
  goal_is =
      let m : Memory = memory_of (with_lists flown writes (machine.log_event s e)) in
      let sp : word (memory_of kept) slot BARRIER_SP ≡ b.sp =
      word_same (set_slot_words begin_writes (memory_of before_landing)) (memory_of kept) refl slot BARRIER_SP ∙ puts_else begin_writes (memory_of before_landing) slot BARRIER_SP (begins_else_sp (heads (lists_of before_landing)) slot words)
      ∙ word_same (set_slot_words (set_barrier_of (Some slot) b) m) (memory_of before_landing) refl slot BARRIER_SP ∙ barrier_sp m slot b thrown_map flight.small small_sp in
      let desc : word (memory_of kept) slot BARRIER_DESCRIPTOR ≡ b.desc =
      word_same (set_slot_words begin_writes (memory_of before_landing)) (memory_of kept) refl slot BARRIER_DESCRIPTOR ∙ puts_else begin_writes (memory_of before_landing) slot BARRIER_DESCRIPTOR (begins_else_desc (heads (lists_of before_landing)) slot words)
      ∙ word_same (set_slot_words (set_barrier_of (Some slot) b) m) (memory_of before_landing) refl slot BARRIER_DESCRIPTOR ∙ barrier_desc m slot b thrown_map flight.small small_desc in
      ap (λ (v : ℕ). let g : Goal = record { sp = v; desc = word (memory_of kept) slot BARRIER_DESCRIPTOR } in g) sp ∙ ap (λ (v : ℕ). let g : Goal = record { sp = b.sp; desc = v } in g) desc

  above : STACK_START ≤ n.frame.sp
  above = let a = k.corresponds.map.home.low in let b = k.low in let c = n.low in omega (arith, a, b, c)

  entered_new : IsEntered x segments (goal_at kept slot) entered.cleanup n.first n.more
  entered_new =
      subst (λ (g : Goal). IsEntered x segments g entered.cleanup n.first n.more) (sym goal_is)
      (subst (λ (v : ℕ). IsEntered x segments (goal_in b) (record { slot = slot; next = next; sp = v; site = n.frame.site }) n.first n.more) (sym n.register)
      (entered_there s.segments segments wrote.stack x (goal_in b) (record { slot = slot; next = next; sp = n.frame.sp; site = n.frame.site }) n.first n.more n.frame.sp n.rest.rise.0 above
      (let t = n.rest.rise.2 in let r = k.corresponds.map.home.high in omega (arith, t, r)) (cleanup_entered x is s k site here deep n slot pad next c (goal_in b) reach)))

  others : AreInProgress x kept (slice_index n.frame.r SP) s.cleanups
  others =
      still_in_progress x s kept n.frame.sp n.cut n.first n.more n.all refl refl n.rest above k.corresponds.map.home.high wrote.stack (slice_index s.regs.r SP) (slice_index n.frame.r SP) s.cleanups within
      (subst (λ (v : ℕ). IsWithin v (cleanups_in s.cleanups)) (sym n.register) within) (λ u h. same_goals slot s kept wrote u (differs u h)) k.cleanups

  -- what every event keeps
  pub cleanup_keeps : Corresponds (goes_in (block_slot (block slot))) → Keeps x (goes_in (block_slot (block slot)))
  cleanup_keeps still =
      subst (λ (o : Option ℕ). Keeps x (goes_in o)) (sym is_slot)
      (subst (Keeps x) (sym same_state)
      (landed_keeps x is s k site here n pad 0 (omega arith) offers (lists_of before_landing) (entered ∷ s.cleanups) segments (push_event (push_event s.events e) logs) wrote.stack counted
      (subst Corresponds same_state (subst (λ (o : Option ℕ). Corresponds (goes_in o)) is_slot still)) wrote.map (
        (let r = n.register in omega (arith, r)),
        inl (refl, entered_new),
        subst (λ (g : Goal). IsWithin g.sp (cleanups_in s.cleanups)) (sym goal_is) bound,
        others,
      )))
    where
      is_slot : block_slot (block slot) ≡ Some slot
      is_slot = slot_of_block_is slot flight.small
