-- What a thread has that is entered: the same over bytes and with recorded activations.
use Rattle.std.proofs.Common.{◌≡◌, ℕ, ◌+◌, ◌<◌, ◌==◌, Bool, true, false, cond, List, [], get_or, map, Option, Some, None, refl, sym, ap, subst, ◌∙◌, arith}
use Rattle.std.proofs.lemmas.Bool.{eqb-true}
use Rattle.std.proofs.lemmas.List.{get_or-map, length-map}
use Rattle.eh_bus.specs.Guards.{insert_all}
use Rattle.eh_bus.specs.Map.{IsMap}
use Rattle.eh_bus.specs.Memory.{Memory}
use Rattle.eh_bus.specs.Segment.{Segment}
use Rattle.eh_cxa.specs.Lists.{OutOfUse}
use Rattle.eh_cxa.specs.Words.{word}
use Rattle.eh_cxa.specs.declared.layout.TheConstants.{SLOTS, STATE}
use Rattle.eh_trace.specs.Trace.{Trace}
use Rattle.frame_check.specs.Accepts.{Accepted}
use Rattle.sim_machines.specs.Activations.{memory_of, bytes_of, state_word}
use Rattle.sim_machines.proofs.FirstEvent.{segments_alone}
use Rattle.thread_memory.specs.Homes.{home_of}
use Rattle.thread_memory.specs.Owners.{owners_after, switch_thread}
use Rattle.thread_memory.specs.declared.owners.Holding.{Holding}
use Rattle.eh_threads.specs.Elements.{Joint, owners_at_switch, memory_at_switch, switch_to, state_in}
use Rattle.thread_laws.specs.RecordedThreads.{RecordedThread, RecordedThreads, OwnedException, entry_for, entries_for, states_from, with_states, state_for, without_record, thread_in}
use Rattle.thread_laws.specs.Standing.{holding, AllMoved, OwnersStand, all_slots, ThreadsStand}
use Rattle.thread_laws.proofs.GuardedSlots.{guards_for}
use Rattle.thread_laws.proofs.Owning.{owners_are, then_all}
use Rattle.thread_laws.proofs.PoolStates.{bare_memory, put_segments, seen_state, states_stand, switch_same}

module _ (x : Accepted) (w : Joint) (v : RecordedThreads) (r : ThreadsStand x w v) where
  is_map : IsMap w.memory
  is_map = subst IsMap (sym r.memory) r.map

  entry_at : (j n : ℕ) → n < SLOTS → get_or (entries_for j v.pool) n OutOfUse ≡ entry_for j (get_or v.pool n None)
  entry_at j n h = get_or-map (entry_for j) v.pool n None OutOfUse (let e = r.sized in omega (arith, h, e))

  -- what is kept of the pool, once the thread that ran is told of
  pub owners_told : owners_after w.entered (word w.memory) w.owners ≡ map holding v.pool
  owners_told =
      ap (λ (os : List Holding). owners_after w.entered (word w.memory) os) r.owners.kept
      ∙ owners_are w.entered (word w.memory) 0 r.owners.at_entry v.pool r.owners.moved
      (λ j l. let z : 0 + j ≡ j = omega arith in rw z (r.states j (let e = r.sized in omega (arith, l, e))))

  built : List Segment → List ℕ → ℕ × ℕ → Memory
  built segments guards home = record { segments = segments; guards = guards; home = home }

  module _ (k : ℕ) (t : RecordedThread) (is : thread_in v k ≡ Some t) where
    same_guards : insert_all (all_slots v.threads) [] ≡ (memory_of (state_for k t v)).guards
    same_guards = sym (guards_for v.threads k t is)

    while_entered : (k == w.entered) ≡ true → w.memory ≡ memory_of (state_for k t v)
    unfolding built
    while_entered e =
        let same : k ≡ w.entered = eqb-true k w.entered e in
        let stand : with_states (entries_for k v.pool) v.segments ≡ v.segments =
        states_stand (entries_for k v.pool) v.segments w.memory r.map.segments (ap (λ (m : Memory). m.segments) r.memory)
        (λ n h. let l : n < SLOTS = (let e = length-map v.pool (entry_for k) in let f = r.sized in omega (arith, h, e, f)) in
        subst (λ (j : ℕ). word w.memory n STATE ≡ state_word (entry_for j (get_or v.pool n None))) (sym same) (r.states n l) ∙ ap state_word (sym (entry_at k n l))) in
        r.memory ∙ ap (λ (j : ℕ). built v.segments (insert_all (all_slots v.threads) []) (home_of j)) (sym same)
        ∙ ap (λ (ss : List Segment). built ss (insert_all (all_slots v.threads) []) (home_of k)) (sym stand)
        ∙ ap (λ (gs : List ℕ). built (with_states (entries_for k v.pool) v.segments) gs (home_of k)) same_guards

    when_switched : switch_thread w.entered k (owners_after w.entered (word w.memory) w.owners) w.memory ≡ memory_of (state_for k t v)
    unfolding built
    when_switched =
        let at_home : Memory → Memory = λ m. record m { home = home_of k } in
        ap (λ (os : List Holding). switch_thread w.entered k os w.memory) owners_told
        ∙ ap at_home (switch_same w.entered k 0 v.pool w.memory is_map (let e = r.sized in omega (arith, e))
        (λ j l. let z : 0 + j ≡ j = omega arith in rw z (r.states j (let e = r.sized in omega (arith, l, e)) ∙ sym (seen_state w.entered (get_or v.pool j None)))))
        ∙ ap at_home (segments_alone (states_from 0 (entries_for k v.pool)) w.memory)
        ∙ ap (λ (ss : List Segment). built ss w.memory.guards (home_of k))
        (put_segments (states_from 0 (entries_for k v.pool)) w.memory (bare_memory v.segments) (ap (λ (m : Memory). m.segments) r.memory))
        ∙ ap (λ (gs : List ℕ). built (with_states (entries_for k v.pool) v.segments) gs (home_of k)) (ap (λ (m : Memory). m.guards) r.memory ∙ same_guards)

    pub memory_is : memory_at_switch k w.entered w.memory w.owners ≡ memory_of (state_for k t v)
    memory_is = go (k == w.entered) refl
      where
        go : (b : Bool) → (k == w.entered) ≡ b → cond b w.memory (switch_thread w.entered k (owners_after w.entered (word w.memory) w.owners) w.memory) ≡ memory_of (state_for k t v)
        go true e = while_entered e
        go false e = when_switched

    -- the thread's own state as it is entered
    pub entered_is : state_in (without_record t).core (switch_to k w) ≡ bytes_of (state_for k t v)
    entered_is =
        ap (λ (m : Memory). record (bytes_of (state_for k t v)) { memory = m; events = w.events }) memory_is
        ∙ ap (λ (e : Trace). record (bytes_of (state_for k t v)) { events = e }) r.events

  pub owners_stand_in : (k : ℕ) (pool : List (Option OwnedException)) → AllMoved k v.pool pool → OwnersStand k (owners_at_switch k w.entered w.memory w.owners) pool
  owners_stand_in k pool moved = go (k == w.entered) refl
    where
      go : (b : Bool) → (k == w.entered) ≡ b → OwnersStand k (cond b w.owners (owners_after w.entered (word w.memory) w.owners)) pool
      go true e = record {
        at_entry = r.owners.at_entry;
        kept = r.owners.kept;
        moved = then_all k r.owners.at_entry v.pool pool
            (subst (λ (j : ℕ). AllMoved j r.owners.at_entry v.pool) (sym (eqb-true k w.entered e)) r.owners.moved) moved;
      }
      go false e = record { at_entry = v.pool; kept = owners_told; moved = moved }
