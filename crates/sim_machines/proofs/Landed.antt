-- A landing does the same over bytes and with recorded activations.
use Rattle.std.proofs.Common.{◌≡◌, ℕ, ◌^◌, ◌<◌, Bool, true, false, List, [], ◌∷◌, ◌++◌, length, map, filter, slice_index, Option, Some, refl, sym, ap, subst, ◌∙◌, arith}
use Rattle.std.proofs.lemmas.List.Elements.{filter-append}
use Rattle.eh_bus.specs.Guards.{insert_all}
use Rattle.eh_bus.specs.Map.{IsMap}
use Rattle.eh_bus.specs.Memory.{Memory, without_guards_below, stays_guarded}
use Rattle.eh_bus.proofs.MapLaws.{released_is_map}
use Rattle.eh_cxa.specs.declared.globals.CleanupWords.{CleanupWords}
use Rattle.eh_cxa.specs.declared.globals.Globals.{Globals}
use Rattle.eh_cxa.specs.declared.layout.TheConstants.{NEXT_CLEANUP}
use Rattle.eh_cxa.specs.States.{is_flying}
use Rattle.eh_cxa.specs.Lists.{Record, Entry, Free, OutOfUse, Live, Lists, entry, slots}
use Rattle.eh_cxa.specs.ListCalls.{begin_cleanup_list, land_record, land_entry, land_list}
use Rattle.eh_cxa.specs.Cleanup.{begin_cleanup_of}
use Rattle.eh_cxa.specs.Throw.{land_by, land_of}
use Rattle.eh_cxa.specs.Stands.{Chain, Stands}
use Rattle.eh_cxa.specs.Words.{Write, word, block, block_slot, set_slot_words}
use Rattle.eh_cxa.proofs.Kept.{still_stands}
use Rattle.eh_cxa.proofs.Meets.{begin_cleanup_meets, land_meets}
use Rattle.eh_cxa.proofs.Pools.{slot_small, slot_of_block_is, all_is_map}
use Rattle.eh_phase.specs.declared.phase2.Entered.TheVariants as enters
use Rattle.eh_trace.specs.declared.event.Event.{Event}
use Rattle.eh_trace.specs.declared.event.EventKind.TheVariants as kind
use Rattle.thumb_core.specs.declared.regs.TheConstants.{SP}
use Rattle.eh_gates.specs.State.{State}
use Rattle.eh_trace.specs.Trace.{push_event}
use Rattle.eh_gates.specs.Landing.{landing_registers, pad_event, words_of, enter_cleanup, enter_handler}
use Rattle.sim_machines.specs.Activations.{Activation, Recorded, slots_of, guarded_words, release_slots, memory_of, words_in, head_of, heads, bytes_of, lists_of, cleanups_in}
use Rattle.sim_machines.specs.ActivationMachine as acts
use Rattle.sim_machines.specs.Corresponds.{Corresponds}
use Rattle.sim_machines.specs.Landings.{IsInFlight, AreBelow, LandingsMatch}
use Rattle.sim_machines.proofs.FirstEvent.{segments_alone}
use Rattle.sim_machines.proofs.WithLists.{lists_are, land_keeps}
use Rattle.sim_machines.proofs.InStep.{same_slot}
use Rattle.sim_machines.proofs.Returning.{none_pass, leaves_home}
use Rattle.sim_machines.proofs.SameSlots.{filter_all}

-- ---- slots

slots_append : (beyond : List ℕ) (xs ys : List Activation) → guarded_words beyond (xs ++ ys) ≡ slots_of xs ++ guarded_words beyond ys
slots_append beyond [] ys = refl
slots_append beyond (x ∷ xs) ys = ap (λ (gs : List ℕ). x.slots ++ gs) (slots_append beyond xs ys) ∙ more x.slots (slots_of xs) (guarded_words beyond ys)
  where
    more : (us vs ws : List ℕ) → us ++ (vs ++ ws) ≡ (us ++ vs) ++ ws
    more [] vs ws = refl
    more (u ∷ us) vs ws = ap (λ (gs : List ℕ). u ∷ gs) (more us vs ws)

slots_released : (home : ℕ × ℕ) (sp : ℕ) (beyond : List ℕ) (acts : List Activation)
    → guarded_words (filter (stays_guarded home sp) beyond) (map (λ (a : Activation). release_slots home sp a) acts) ≡ filter (stays_guarded home sp) (guarded_words beyond acts)
slots_released home sp beyond [] = refl
slots_released home sp beyond (a ∷ more) =
    ap (λ (gs : List ℕ). filter (stays_guarded home sp) a.slots ++ gs) (slots_released home sp beyond more)
    ∙ sym (filter-append (stays_guarded home sp) a.slots (guarded_words beyond more))

module _ (s : Recorded) (c : Corresponds s) (cut : List Activation) (a : Activation) (more : List Activation) (all : s.first ∷ s.outer ≡ cut ++ a ∷ more) where
  -- the guards after a landing are the slots of what it leaves, and the words beyond that stay
  abbrev left_slots : ℕ → List ℕ
  left_slots sp = guarded_words (filter (stays_guarded s.home sp) s.beyond) (map (λ (b : Activation). release_slots s.home sp b) (a ∷ more))

  guards_left : (sp : ℕ) → AreBelow s cut sp
      → filter (stays_guarded s.home sp) (insert_all (guarded_words s.beyond (s.first ∷ s.outer)) []) ≡ insert_all (left_slots sp) []
  guards_left sp below =
      filter_all (stays_guarded s.home sp) (guarded_words s.beyond (s.first ∷ s.outer))
      ∙ ap (λ (gs : List ℕ). insert_all gs []) (
      ap (λ (xs : List Activation). filter (stays_guarded s.home sp) (guarded_words s.beyond xs)) all
      ∙ ap (filter (stays_guarded s.home sp)) (slots_append s.beyond cut (a ∷ more))
      ∙ filter-append (stays_guarded s.home sp) (slots_of cut) (guarded_words s.beyond (a ∷ more))
      ∙ ap (λ (gs : List ℕ). gs ++ filter (stays_guarded s.home sp) (guarded_words s.beyond (a ∷ more)))
      (none_pass (stays_guarded s.home sp) (slots_of cut) (λ g h. let f = below g h in leaves_home s.home.0 sp g f.0 f.1))
      ∙ sym (slots_released s.home sp s.beyond (a ∷ more))
      )

  -- the memory after a landing, with words written before it
  abbrev left_memory : List Write → ℕ → Memory
  left_memory ws sp = record {
    segments = (set_slot_words ws (memory_of s)).segments;
    guards = insert_all (left_slots sp) [];
    home = s.home;
  }

  memory_left : (ws : List Write) (sp : ℕ) → AreBelow s cut sp → without_guards_below (set_slot_words ws (memory_of s)) sp ≡ left_memory ws sp
  memory_left ws sp below =
      ap (λ (m : Memory). without_guards_below m sp) (segments_alone ws (memory_of s))
      ∙ ap (λ (gs : List ℕ). record { segments = (set_slot_words ws (memory_of s)).segments; guards = gs; home = s.home }) (guards_left sp below)

  same_words : (m m' : Memory) → m'.segments ≡ m.segments → (t k : ℕ) → word m' t k ≡ word m t k
  unfolding word
  same_words m m' e t k = rw e refl

  left_map : (ws : List Write) (sp : ℕ) → AreBelow s cut sp → IsMap (left_memory ws sp)
  left_map ws sp below =
      subst (λ (m : Memory). IsMap m) (memory_left ws sp below) (released_is_map (set_slot_words ws (memory_of s)) sp (all_is_map ws (memory_of s) c.map))

  left_stands : (ws : List Write) (sp : ℕ) (g : Globals) (l : Lists) → Stands (word (set_slot_words ws (memory_of s))) g l → Stands (word (left_memory ws sp)) g l
  left_stands ws sp g l x = still_stands (set_slot_words ws (memory_of s)) (left_memory ws sp) g l (λ t k h i. same_words (set_slot_words ws (memory_of s)) (left_memory ws sp) refl t k) x

  module _ (slot : ℕ) (f : IsInFlight s slot) where
    is_slot : block_slot (block slot) ≡ Some slot
    is_slot = slot_of_block_is slot f.small

    -- ---- a cleanup

    small_head : (heads (lists_of s)).cleanup < 2 ^ 32
    small_head = go (slots (cleanups_in s.cleanups)) c.stands.shows.cleanups
      where
        go : (xs : List ℕ) → Chain (λ t. word (memory_of s) t NEXT_CLEANUP) (head_of xs) xs → head_of xs < 2 ^ 32
        go [] k = omega arith
        go (t ∷ rest) k = let h = slot_small (block t) t k.0 in omega arith

    begins : (w : CleanupWords) → w.next < 2 ^ 32 → w.sp < 2 ^ 32 → w.site < 2 ^ 32
        → Stands (word (set_slot_words (begin_cleanup_of (heads (lists_of s)) (block slot) w).writes (memory_of s))) (begin_cleanup_of (heads (lists_of s)) (block slot) w).globals (begin_cleanup_list (lists_of s) slot w)
    begins w next sp site =
        let d = begin_cleanup_of (heads (lists_of s)) (block slot) w in
        begin_cleanup_meets (memory_of s) (set_slot_words d.writes (memory_of s)) (heads (lists_of s)) d.globals (block slot) w c.map small_head (record { next = next; sp = sp; site = site }) refl
        (lists_of s) slot c.stands is_slot f.flies f.idle

    cleanup_globals : (w : CleanupWords) → (begin_cleanup_of (heads (lists_of s)) (block slot) w).globals ≡ heads (begin_cleanup_list (lists_of s) slot w)
    cleanup_globals w = rw is_slot refl

    cleanup_match : (object : ℕ) (r : List ℕ) (pad : ℕ) (w : CleanupWords) → AreBelow s cut (slice_index r SP) → w.next < 2 ^ 32 → w.sp < 2 ^ 32 → w.site < 2 ^ 32
        → (enter_cleanup (bytes_of s) (block slot) r pad w ≡ bytes_of (acts.enter_cleanup s (a ∷ more) (block slot) r pad w)) × Corresponds (acts.enter_cleanup s (a ∷ more) (block slot) r pad w)
    cleanup_match object r pad w below next sp site =
        let d = begin_cleanup_of (heads (lists_of s)) (block slot) w in
        let e = pad_event kind.Cleanup pad (slice_index r SP) 0 in
        let x = subst (λ (g : Globals). Stands (word (set_slot_words d.writes (memory_of s))) g (begin_cleanup_list (lists_of s) slot w)) (cleanup_globals w) (begins w next sp site) in
        let one : Memory → State = λ m. record {
          regs = landing_registers s.regs r pad 0;
          globals = d.globals;
          memory = m;
          events = push_event s.events e;
        } in
        let two : Globals → State = λ g. record {
          regs = landing_registers s.regs r pad 0;
          globals = g;
          memory = left_memory d.writes (slice_index r SP);
          events = push_event s.events e;
        } in
        let same = ap one (memory_left d.writes (slice_index r SP) below) ∙ ap two (cleanup_globals w) in
        subst (λ (o : Option ℕ).
        (enter_cleanup (bytes_of s) (block slot) r pad w ≡ bytes_of (acts.log_event (acts.at_pad (acts.in_progress s (length more) (block slot) w o) (a ∷ more) r pad 0) e))
        × Corresponds (acts.log_event (acts.at_pad (acts.in_progress s (length more) (block slot) w o) (a ∷ more) r pad 0) e)) (sym is_slot) (
          same,
          record {
            map = left_map d.writes (slice_index r SP) below;
            stands = left_stands d.writes (slice_index r SP) (heads (begin_cleanup_list (lists_of s) slot w)) (begin_cleanup_list (lists_of s) slot w) x;
          },
        )

    -- ---- a handler

    abbrev landed_lists : Lists
    landed_lists = land_list (lists_of s) slot

    land_heads : heads landed_lists ≡ heads (lists_of s)
    land_heads = by_entry (entry (lists_of s) slot)
      where
        by_state : (b : Bool) (r : Record) → heads (land_record b (lists_of s) slot r) ≡ heads (lists_of s)
        by_state true r = refl
        by_state false r = refl

        by_entry : (e : Entry) → heads (land_entry (lists_of s) slot e) ≡ heads (lists_of s)
        by_entry Free = refl
        by_entry OutOfUse = refl
        by_entry (Live r) = by_state (is_flying (Some r.state)) r

    land_is : lists_of (acts.land_exception s (Some slot)) ≡ landed_lists
    land_is = lists_are landed_lists (land_of (words_in (lists_of s)) (Some slot)) s (land_keeps (lists_of s) slot)

    abbrev land_writes : List Write
    land_writes = land_of (words_in (lists_of s)) (Some slot)

    same_land : land_of (word (memory_of s)) (block_slot (block slot)) ≡ land_writes
    same_land =
        ap (land_of (word (memory_of s))) is_slot
        ∙ ap (λ n. land_by (is_flying n) slot) (sym (same_slot (word (memory_of s)) (heads (lists_of s)) (lists_of s) c.stands slot f.small).state)

    lands : Stands (word (set_slot_words land_writes (memory_of s))) (heads landed_lists) landed_lists
    lands =
        subst (λ (g : Globals). Stands (word (set_slot_words land_writes (memory_of s))) g landed_lists) (sym land_heads)
        (land_meets (memory_of s) (set_slot_words land_writes (memory_of s)) (block slot) c.map (ap (λ (ws : List Write). set_slot_words ws (memory_of s)) (sym same_land)) (heads (lists_of s)) (lists_of s) slot
        c.stands is_slot f.idle)

    handler_match : (r : List ℕ) (pad : ℕ) (e : Event) → AreBelow s cut (slice_index r SP)
        → (enter_handler (bytes_of s) (block slot) r pad e ≡ bytes_of (acts.enter_handler s (a ∷ more) (block slot) r pad e)) × Corresponds (acts.enter_handler s (a ∷ more) (block slot) r pad e)
    handler_match r pad e below =
        let after : Memory → State = λ m. record {
          regs = landing_registers s.regs r pad (block slot);
          globals = heads (lists_of s);
          memory = m;
          events = push_event s.events e;
        } in
        let two : Globals → State = λ g. record {
          regs = landing_registers s.regs r pad (block slot);
          globals = g;
          memory = left_memory land_writes (slice_index r SP);
          events = push_event s.events e;
        } in
        let same =
        ap (λ (ws : List Write). after (without_guards_below (set_slot_words ws (memory_of s)) (slice_index r SP))) same_land ∙ ap after (memory_left land_writes (slice_index r SP) below) ∙ ap two (sym land_heads ∙ sym (ap heads land_is)) in
        subst (λ (o : Option ℕ).
        (enter_handler (bytes_of s) (block slot) r pad e ≡ bytes_of (acts.log_event (acts.at_pad (acts.land_exception s o) (a ∷ more) r pad (block slot)) e))
        × Corresponds (acts.log_event (acts.at_pad (acts.land_exception s o) (a ∷ more) r pad (block slot)) e)) (sym is_slot) (
          same,
          record {
            map = left_map land_writes (slice_index r SP) below;
            stands = subst (λ (l : Lists). Stands (word (left_memory land_writes (slice_index r SP))) (heads l) l) (sym land_is)
                (left_stands land_writes (slice_index r SP) (heads landed_lists) landed_lists lands);
          },
        )

pub landings_match : LandingsMatch
landings_match s cut a more slot object (enters.Cleanup vrs pad next site) c f all (below, sp, n, at) =
    let m = cleanup_match s c cut a more all slot f object vrs.r pad (words_of vrs.r next site) below n sp at in
    record { same = m.0; still = m.1 }
landings_match s cut a more slot object (enters.Catch vrs pad) c f all below =
    let m = handler_match s c cut a more all slot f vrs.r pad (pad_event kind.Catch pad (slice_index vrs.r SP) object) below in
    record { same = m.0; still = m.1 }
landings_match s cut a more slot object (enters.Spec vrs pad) c f all below =
    let m = handler_match s c cut a more all slot f vrs.r pad (pad_event kind.Unexpected pad (slice_index vrs.r SP) 0) below in
    record { same = m.0; still = m.1 }
landings_match s cut a more slot object enters.Unexpected c f all h = record { same = (refl, refl); still = c }
landings_match s cut a more slot object (enters.Terminate why) c f all h = record { same = (refl, refl); still = c }
