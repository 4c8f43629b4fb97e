-- A thread at a function's start, and the threads at the start of a run.
use Rattle.std.proofs.Common.{◌≡◌, ℕ, zero, suc, ◌+◌, ◌^◌, ◌<◌, ◌≤◌, inl, inr, true, List, [], ◌∷◌, length, get_or, map, replicate, slice_index, Option, Some, None, refl, sym, ap, subst, ◌∙◌, arith}
use Rattle.std.proofs.lemmas.Bool.{cases_eq, cases_lt}
use Rattle.std.proofs.lemmas.List.{get_or-map, get_or_past, get_or-replicate, length-map, length-replicate}
use Rattle.std.proofs.lemmas.Option.{same_Some}
use Rattle.eh_bus.specs.Guards.{insert_all, AreGuards}
use Rattle.eh_bus.specs.Map.{AreSegments, SameMap}
use Rattle.eh_bus.specs.Memory.{Memory}
use Rattle.eh_bus.specs.declared.map.TheConstants.{STACK_START, STACK_END}
use Rattle.eh_bus.proofs.MapLaws.{map_refl, map_trans}
use Rattle.eh_cxa.specs.Lists.{Entry, Free, OutOfUse, entry}
use Rattle.eh_cxa.specs.Words.{Pool, word}
use Rattle.eh_cxa.specs.declared.layout.TheConstants.{SLOTS, CLOSED_WORDS, STATE}
use Rattle.eh_cxa.specs.declared.state.TheConstants.{FREE}
use Rattle.frame_check.specs.Accepts.{Accepted}
use Rattle.run_gates.specs.declared.gates.TheConstants.{NO_CALLER}
use Rattle.run_images.specs.Start.{begins_function, image_start}
use Rattle.thumb_core.specs.Laws.{AreSound}
use Rattle.thumb_core.specs.declared.regs.TheConstants.{LR, SP}
use Rattle.thumb_core.specs.declared.regs.Regs.{Regs}
use Rattle.sim_machines.specs.Activations.{memory_of, recorded_start, state_word}
use Rattle.sim_machines.specs.Checked.{program_of}
use Rattle.sim_machines.specs.RecordedSlots.{AreOutside}
use Rattle.sim_machines.specs.Start.{start_of}
use Rattle.sim_relation.specs.Stands.{Keeps, IsProgram}
use Rattle.sim_relation.proofs.First.{starts_stand}
use Rattle.sim_changes.specs.Free.{IsIdle, FreeStarts, quiet_lists}
use Rattle.thread_memory.specs.Homes.{home_of}
use Rattle.thread_memory.specs.Owners.{unowned_from}
use Rattle.thread_memory.specs.declared.homes.TheConstants.{THREADS}
use Rattle.thread_memory.specs.declared.owners.Holding.{Holding}
use Rattle.eh_threads.specs.Elements.{joint_over}
use Rattle.thread_laws.specs.RecordedThreads.{RecordedThread, RecordedThreads, OwnedException, entry_for, entries_for, with_states, slots_beside, state_for, new_recorded_thread, thread_in, threads_at_start}
use Rattle.thread_laws.specs.Standing.{holding, memory_for, ThreadsStand}
use Rattle.thread_laws.specs.Laws.{StartsStand}
use Rattle.thread_laws.proofs.Lying.{idle_shown, state_of_entry}
use Rattle.thread_laws.proofs.Owning.{all_stay}
use Rattle.thread_laws.proofs.PoolStates.{bare_memory, word_segments, is_home, state_small, states_segments, states_word, states_other, states_map}

-- ---- a thread that begins

module _ (starts : FreeStarts) (x : Accepted) (is : IsProgram x) (v : RecordedThreads) (number : ℕ) (regs : Regs) (small : number < THREADS) (sized : length v.pool ≡ SLOTS) (segments : AreSegments v.segments)
    (image : SameMap (image_start x.image).memory.segments v.segments) (words : (n i : ℕ) → n < SLOTS → i < CLOSED_WORDS → (i ≡ STATE → ⊥) → word (bare_memory v.segments) n i < 2 ^ 32)
    (none : (n : ℕ) → IsIdle (entry_for number (get_or v.pool n None))) (outside : AreOutside (home_of number) (slots_beside number 0 v.threads))
    (guards : AreGuards (insert_all (slots_beside number 0 v.threads) [])) where
  abbrev entries : List Entry
  entries = entries_for number v.pool

  entries_sized : length entries ≡ SLOTS
  entries_sized = length-map v.pool (entry_for number) ∙ sized

  abbrev m : Memory
  m = record { segments = with_states entries v.segments; guards = insert_all (slots_beside number 0 v.threads) []; home = home_of number }

  idle : (n : ℕ) → IsIdle (entry (quiet_lists entries) n)
  idle n = elim (cases_lt n SLOTS) [
    | inl h ↦ subst IsIdle (sym (get_or-map (entry_for number) v.pool n None OutOfUse (omega (arith, h, sized)))) (none n)
    | inr h ↦ subst IsIdle (sym (get_or_past entries n OutOfUse (omega (arith, h, entries_sized)))) refl
  ]

  state : (n : ℕ) → n < SLOTS → word m n STATE ≡ state_word (get_or entries n OutOfUse)
  state n h = states_word entries v.segments segments entries_sized m refl n h

  is_small : (n i : ℕ) → n < SLOTS → i < CLOSED_WORDS → word m n i < 2 ^ 32
  is_small n i h l = elim (cases_eq i STATE) [
    | inl e ↦ subst (λ (p : ℕ). word m n p < 2 ^ 32) (sym e) (subst (λ (a : ℕ). a < 2 ^ 32) (sym (state n h)) (state_small (get_or entries n OutOfUse)))
    | inr d ↦ subst (λ (a : ℕ). a < 2 ^ 32) (sym (states_other entries v.segments segments entries_sized m refl n i h (omega (arith, l)) d)) (words n i h l d)
  ]

  pub begun_keeps : begins_function x.image.functions regs.pc ≡ true → AreSound regs.r regs.pc → slice_index regs.r LR ≡ NO_CALLER → slice_index regs.r SP ≡ (home_of number).1
      → Keeps x (state_for number (new_recorded_thread regs) v)
  begun_keeps begins sound link sp =
      starts x regs entries (with_states entries v.segments) (home_of number) v.events (slots_beside number 0 v.threads) is (record {
        begins = begins;
        sound = sound;
        link = link;
        sp = sp;
        map = record { segments = states_segments entries v.segments segments entries_sized; guards = guards; home = is_home number small };
        outside = outside;
        image = map_trans (image_start x.image).memory.segments v.segments (with_states entries v.segments) image (states_map entries v.segments segments entries_sized);
        sized = entries_sized;
        idle = idle;
        shown = λ n h. idle_shown (word m) n (entry (quiet_lists entries) n) (idle n) (state n h);
        small = is_small;
      })

-- ---- the start of a run

module _ (starts : FreeStarts) (x : Accepted) (is : IsProgram x) where
  abbrev v : RecordedThreads
  v = threads_at_start (program_of x)

  first : Keeps x (recorded_start (program_of x))
  first = starts_stand x is

  none_in : (n : ℕ) → get_or v.pool n None ≡ None
  none_in n = elim (cases_lt n SLOTS) [
    | inl h ↦ get_or-replicate {A = Option OwnedException} SLOTS n None None h
    | inr h ↦ get_or_past v.pool n None (let l = length-replicate {A = Option OwnedException} SLOTS None in omega (arith, h, l))
  ]

  free_word : (m : Memory) → m.segments ≡ (start_of (program_of x)).memory.segments → (n : ℕ) → n < SLOTS → word m n STATE ≡ FREE
  free_word m e n h =
      word_segments m (memory_of (recorded_start (program_of x))) e n STATE
      ∙ state_of_entry (word (memory_of (recorded_start (program_of x)))) n Free (sym (get_or-replicate SLOTS n Free OutOfUse h) ∙ first.corresponds.stands.shows.entries n h) (λ q. cc)

  nobodys : (w : Pool) (i n : ℕ) → ((j : ℕ) → j < n → w (i + j) STATE ≡ FREE) → unowned_from w i n ≡ map holding (replicate n None)
  unfolding unowned_from
  nobodys w i zero h = refl
  nobodys w i (suc n) h =
      let z : i + 0 ≡ i = omega arith in
      let first : w i STATE ≡ FREE = subst (λ (k : ℕ). w k STATE ≡ FREE) z (h 0 (omega arith)) in
      ap (λ (s : ℕ). record { owner = None; state = s } ∷ unowned_from w (suc i) n) first
      ∙ ap (λ (hs : List Holding). record { owner = None; state = FREE } ∷ hs)
      (nobodys w (suc i) n (λ j l. let s : i + suc j ≡ suc i + j = omega arith in subst (λ (k : ℕ). w k STATE ≡ FREE) s (h (suc j) (omega (arith, l)))))

  not_started : (t : RecordedThread) → ◌≡◌ {A = Option RecordedThread} None (Some t) → ⊥
  not_started t e = cc

  no_guards : AreGuards []
  no_guards = let l : STACK_START ≤ STACK_END = omega arith in l

  keeps_first : Keeps x (state_for 0 (new_recorded_thread (start_of (program_of x)).regs) v)
  keeps_first =
      begun_keeps starts x is v 0 (start_of (program_of x)).regs (omega arith) (length-replicate {A = Option OwnedException} SLOTS None) is.map.segments (map_refl (image_start x.image).memory.segments)
      (λ n i h l d. subst (λ (a : ℕ). a < 2 ^ 32) (word_segments (memory_of (recorded_start (program_of x))) (bare_memory v.segments) refl n i) (first.corresponds.stands.shows.small n i h l))
      (λ n. subst (λ (o : Option OwnedException). IsIdle (entry_for 0 o)) (sym (none_in n)) refl) (λ g h. absurd h) no_guards
      is.image.entry_begins first.sound refl refl

  keeps_each : (k : ℕ) (t : RecordedThread) → thread_in v k ≡ Some t → Keeps x (state_for k t v)
  keeps_each zero t e = subst (λ (u : RecordedThread). Keeps x (state_for 0 u v)) (same_Some (new_recorded_thread (start_of (program_of x)).regs) t e) keeps_first
  keeps_each (suc zero) t e = absurd (not_started t e)
  keeps_each (suc (suc zero)) t e = absurd (not_started t e)
  keeps_each (suc (suc (suc zero))) t e = absurd (not_started t e)
  keeps_each (suc (suc (suc (suc k)))) t e = absurd (not_started t e)

  no_owner : (o : OwnedException) → ◌≡◌ {A = Option OwnedException} None (Some o) → ⊥
  no_owner o e = cc

  start_stands : ThreadsStand x (joint_over (start_of (program_of x))) v
  start_stands = record {
    threads = refl;
    numbered = refl;
    events = refl;
    tags = refl;
    sized = length-replicate {A = Option OwnedException} SLOTS None;
    entered = omega arith;
    map = record { segments = is.map.segments; guards = no_guards; home = is_home 0 (omega arith) };
    image = map_refl (image_start x.image).memory.segments;
    memory = refl;
    states = λ n h. free_word (memory_for 0 v) refl n h ∙ sym (ap (λ (o : Option OwnedException). state_word (entry_for 0 o)) (none_in n));
    owners = record {
      at_entry = v.pool;
      kept = nobodys (word (start_of (program_of x)).memory) 0 SLOTS (λ j l. free_word (start_of (program_of x)).memory refl (0 + j) (let z : 0 + j < SLOTS = omega (arith, l) in z));
      moved = all_stay 0 v.pool;
    };
    owned = λ n o e. absurd (no_owner o (sym (none_in n) ∙ e));
    keeps = keeps_each;
  }

pub starts_stand_for : FreeStarts → StartsStand
starts_stand_for starts x is = start_stands starts x is
