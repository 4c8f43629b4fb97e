-- After an event of a thread: the thread's own state, and those of the others.
use Rattle.std.proofs.Common.{◌≡◌, ℕ, ◌+◌, ◌^◌, ◌<◌, ◌≤◌, ◌⊎◌, inl, inr, ◌==◌, not, Bool, true, false, cond, List, [], ◌∷◌, length, get_or, Option, Some, None, refl, sym, ap, subst, ◌∙◌, arith}
use Rattle.std.proofs.lemmas.Bool.{cases_eq, cases_lt, eqb-true}
use Rattle.std.proofs.lemmas.List.{get_or-map, get_or_past, get_or-set_same, get_or-set_other, length-set, length-map}
use Rattle.eh_bus.specs.Guards.{insert_all, AreGuards}
use Rattle.eh_bus.specs.Lists.{Has}
use Rattle.eh_bus.specs.Map.{AreSegments, IsMap, SameMap}
use Rattle.eh_bus.specs.Memory.{Memory, load_number}
use Rattle.eh_bus.specs.Segment.{Segment}
use Rattle.eh_bus.specs.declared.map.TheConstants.{STACK_START}
use Rattle.eh_bus.proofs.MapLaws.{map_trans}
use Rattle.eh_cxa.specs.Lists.{Entry, Free, OutOfUse, Live, entry}
use Rattle.eh_cxa.specs.Words.{word}
use Rattle.eh_cxa.specs.declared.layout.TheConstants.{SLOTS, SLOT_WORDS, CLOSED_WORDS, STATE}
use Rattle.eh_trace.specs.Trace.{Trace}
use Rattle.frame_check.specs.Accepts.{Accepted}
use Rattle.run_images.specs.Start.{image_start}
use Rattle.sim_machines.specs.Activations.{Recorded, guarded_words, slots_of, lists_of, memory_of, state_word, with_exceptions}
use Rattle.sim_machines.specs.RecordedSlots.{AreOutside}
use Rattle.sim_relation.specs.Stands.{Keeps}
use Rattle.sim_changes.specs.Free.{IsIdle, SameRecords, SameParts, memory_over}
use Rattle.thread_memory.specs.Homes.{home_of}
use Rattle.thread_memory.specs.declared.homes.TheConstants.{THREADS}
use Rattle.thread_laws.specs.RecordedThreads.{RecordedThread, RecordedThreads, OwnedException, entry_for, entries_for, with_states, slots_in, slots_beside, state_for, thread_from, with_state, thread_in}
use Rattle.thread_laws.specs.Standing.{is_others, MovesSlot, AllMoved, all_slots}
use Rattle.thread_laws.specs.Leaving.{LeavesOthers}
use Rattle.thread_laws.proofs.GuardedSlots.{guards_for, beside_set, beside_has, of_others}
use Rattle.thread_laws.proofs.Lying.{StateLaws, slots_lie, all_words_same, both_maps, state_of_entry, idle_shown}
use Rattle.thread_laws.proofs.Owning.{others_entry, pool_entries, pool_moved, pool_length, moved_at}
use Rattle.thread_laws.proofs.PoolStates.{bare_memory, word_segments, is_home, state_small, states_segments, states_word, states_other, states_loads, states_map, states_stand}

-- nothing that is kept speaks of the events
pub other_events : (x : Accepted) (s : Recorded) (events : Trace) → Keeps x s → Keeps x (record s { events = events })
other_events x s events k = record {
  corresponds = record { map = k.corresponds.map; stands = k.corresponds.stands };
  counted = k.counted;
  image = k.image;
  sound = k.sound;
  low = k.low;
  high = k.high;
  whole = k.whole;
  slots = k.slots;
  beyond = k.beyond;
  first = k.first;
  chain = k.chain;
  cleanups = k.cleanups;
}

pub none_started : (threads : List (Option RecordedThread)) (k : ℕ) (t : RecordedThread) → get_or threads k None ≡ Some t → k < length threads
none_started threads k t e = elim (cases_lt k (length threads)) [
  | inl low ↦ low
  | inr high ↦ absurd (none_some t (sym (get_or_past threads k None high) ∙ e))
]
  where
    none_some : (t : RecordedThread) → ◌≡◌ {A = Option RecordedThread} None (Some t) → ⊥
    none_some t e = cc

-- homes are apart
apart_homes : (i j g : ℕ) → i < THREADS → j < THREADS → (i ≡ j → ⊥) → (home_of i).0 ≤ g → g + 4 ≤ (home_of i).1 → (g < (home_of j).0) ⊎ ((home_of j).1 ≤ g)
apart_homes i j g h k d low high = elim (cases_lt i j) [
  | inl l ↦ inr (omega (arith, l, low, h, k))
  | inr l ↦ inl (omega (arith, l, d, high, h, k))
]

-- no slot of a thread lies in another's home
pub beside_outside : (x : Accepted) (v : RecordedThreads) → length v.threads ≡ THREADS → ((i : ℕ) (u : RecordedThread) → thread_in v i ≡ Some u → Keeps x (state_for i u v))
    → (j : ℕ) → j < THREADS → AreOutside (home_of j) (slots_beside j 0 v.threads)
beside_outside x v numbered keeps j h g has =
    let w = of_others j 0 v.threads g has in
    by w.0 (thread_in v w.0) refl (λ e. w.1.0 (omega (arith, e))) (omega (arith, w.1.1, numbered)) w.1.2
  where
    by : (i : ℕ) (o : Option RecordedThread) → thread_in v i ≡ o → (i ≡ j → ⊥) → i < THREADS → Has (slots_in (thread_in v i)) g → (g < (home_of j).0) ⊎ ((home_of j).1 ≤ g)
    by i None e d l has = absurd (subst (λ (o : Option RecordedThread). Has (slots_in o) g) e has)
    by i (Some u) e d l has =
        let lies = slots_lie x (state_for i u v) (keeps i u e) g (subst (λ (o : Option RecordedThread). Has (slots_in o) g) e has) in
        apart_homes i j g l h d lies.0 lies.1

module _ (laws : StateLaws) (x : Accepted) (v : RecordedThreads) (k : ℕ) (t : RecordedThread) (started : thread_in v k ≡ Some t) (numbered : length v.threads ≡ THREADS) (sized : length v.pool ≡ SLOTS)
    (segments : AreSegments v.segments) (keeps : (j : ℕ) (u : RecordedThread) → thread_in v j ≡ Some u → Keeps x (state_for j u v))
    (s : Recorded) (kept : Keeps x s) (leaves : LeavesOthers (state_for k t v) s) (home : s.home ≡ home_of k) (beyond : s.beyond ≡ slots_beside k 0 v.threads) (ended : Option ℕ) where
  abbrev old : Recorded
  old = state_for k t v

  abbrev now : RecordedThreads
  now = with_state k ended s v

  abbrev own : RecordedThread
  own = thread_from s ended

  inside : k < length v.threads
  inside = none_started v.threads k t started

  small : k < THREADS
  small = omega (arith, inside, numbered)

  pub now_numbered : length now.threads ≡ THREADS
  now_numbered = length-set v.threads k (Some own) ∙ numbered

  pub now_own : thread_in now k ≡ Some own
  now_own = get_or-set_same v.threads k (Some own) None inside

  pub now_other : (j : ℕ) → (j ≡ k → ⊥) → thread_in now j ≡ thread_in v j
  now_other j d = get_or-set_other v.threads k j (Some own) None d

  -- ---- the pool

  entries_sized : length s.entries ≡ SLOTS
  entries_sized = kept.corresponds.stands.shows.sized

  same_length : length s.entries ≡ length v.pool
  same_length = entries_sized ∙ sym sized

  entry_at : (j n : ℕ) (pool : List (Option OwnedException)) → n < length pool → get_or (entries_for j pool) n OutOfUse ≡ entry_for j (get_or pool n None)
  entry_at j n pool h = get_or-map (entry_for j) pool n None OutOfUse h

  out_before : (n : ℕ) → n < length v.pool → get_or s.entries n OutOfUse ≡ OutOfUse → entry_for k (get_or v.pool n None) ≡ OutOfUse
  out_before n h e = sym (entry_at k n v.pool h) ∙ (leaves.unused n).1 e

  out_after : (n : ℕ) → n < length v.pool → entry_for k (get_or v.pool n None) ≡ OutOfUse → get_or s.entries n OutOfUse ≡ OutOfUse
  out_after n h e = (leaves.unused n).0 (entry_at k n v.pool h ∙ e)

  pub now_entries : entries_for k now.pool ≡ s.entries
  now_entries = pool_entries k s.entries v.pool same_length out_before

  pub now_moved : AllMoved k v.pool now.pool
  now_moved = pool_moved k s.entries v.pool same_length out_before out_after

  pub now_sized : length now.pool ≡ SLOTS
  now_sized = pool_length k s.entries v.pool same_length ∙ sized

  entry_now : (n : ℕ) → n < SLOTS → get_or s.entries n OutOfUse ≡ entry_for k (get_or now.pool n None)
  entry_now n h = ap (λ (es : List Entry). get_or es n OutOfUse) (sym now_entries) ∙ entry_at k n now.pool (omega (arith, h, now_sized))

  sized_for : (j : ℕ) (pool : List (Option OwnedException)) → length pool ≡ SLOTS → length (entries_for j pool) ≡ SLOTS
  sized_for j pool e = length-map pool (entry_for j) ∙ e

  old_word : (n : ℕ) → n < SLOTS → word (memory_of old) n STATE ≡ state_word (get_or old.entries n OutOfUse)
  old_word n h = states_word (entries_for k v.pool) v.segments segments (sized_for k v.pool sized) (memory_of old) refl n h

  -- the state words are those of the entries
  now_word : (n : ℕ) → n < SLOTS → word (memory_of s) n STATE ≡ state_word (get_or s.entries n OutOfUse)
  now_word n h = go (get_or s.entries n OutOfUse) refl
    where
      out : get_or s.entries n OutOfUse ≡ OutOfUse → word (memory_of s) n STATE ≡ state_word OutOfUse
      out e =
          let before : get_or old.entries n OutOfUse ≡ OutOfUse = (leaves.unused n).1 e in
          leaves.closed n STATE h (omega arith) before ∙ old_word n h ∙ ap state_word before

      go : (e : Entry) → get_or s.entries n OutOfUse ≡ e → word (memory_of s) n STATE ≡ state_word e
      go Free e = state_of_entry (word (memory_of s)) n Free (sym e ∙ kept.corresponds.stands.shows.entries n h) (λ q. cc)
      go OutOfUse e = out e
      go (Live r) e = state_of_entry (word (memory_of s)) n (Live r) (sym e ∙ kept.corresponds.stands.shows.entries n h) (λ q. cc)

  pub now_states : (m : Memory) → m.segments ≡ s.segments → (n : ℕ) → n < SLOTS → word m n STATE ≡ state_word (entry_for k (get_or now.pool n None))
  now_states m e n h = word_segments m (memory_of s) e n STATE ∙ now_word n h ∙ ap state_word (entry_now n h)

  -- ---- its own state

  made : List Entry → List Segment → ℕ × ℕ → List ℕ → Recorded
  made es ss at more = record {
    regs = s.regs;
    entries = es;
    caught = s.caught;
    cleanups = s.cleanups;
    uncaught = s.uncaught;
    segments = ss;
    home = at;
    events = s.events;
    first = s.first;
    outer = s.outer;
    beyond = more;
  }

  now_beside : slots_beside k 0 now.threads ≡ s.beyond
  now_beside = beside_set k 0 k v.threads (Some own) (omega arith) ∙ sym beyond

  stand : with_states s.entries s.segments ≡ s.segments
  stand = states_stand s.entries s.segments (memory_of s) kept.corresponds.map.segments refl (λ n h. now_word n (omega (arith, h, entries_sized)))

  pub now_is : state_for k own now ≡ s
  unfolding made
  now_is =
      ap (λ (es : List Entry). made es (with_states es s.segments) (home_of k) (slots_beside k 0 now.threads)) now_entries
      ∙ ap (λ (ss : List Segment). made s.entries ss (home_of k) (slots_beside k 0 now.threads)) stand
      ∙ ap (λ (at : ℕ × ℕ). made s.entries s.segments at (slots_beside k 0 now.threads)) (sym home)
      ∙ ap (λ (more : List ℕ). made s.entries s.segments s.home more) now_beside

  pub now_guards : (memory_of s).guards ≡ insert_all (all_slots now.threads) []
  now_guards =
      ap (λ (more : List ℕ). insert_all (guarded_words more (s.first ∷ s.outer)) []) (sym now_beside) ∙ guards_for now.threads k own now_own

  -- ---- the others

  module _ (j : ℕ) (u : RecordedThread) (other : j ≡ k → ⊥) (is : thread_in v j ≡ Some u) (now_keeps : (g : ℕ) → Has (slots_of (s.first ∷ s.outer)) g → (s.home.0 ≤ g) × (g + 4 ≤ s.home.1)) where
    abbrev theirs : Recorded
    theirs = state_for j u v

    abbrev after : Recorded
    after = state_for j u now

    kj : Keeps x theirs
    kj = keeps j u is

    lies : (g : ℕ) → Has (slots_of (u.first ∷ u.outer)) g → ((home_of j).0 ≤ g) × (g + 4 ≤ (home_of j).1)
    lies = slots_lie x theirs kj

    low : j < THREADS
    low = omega (arith, none_started v.threads j u is, numbered)

    new_segments : AreSegments after.segments
    new_segments = states_segments (entries_for j now.pool) s.segments kept.corresponds.map.segments (sized_for j now.pool now_sized)

    abbrev m : Memory
    m = memory_over theirs after.segments after.beyond

    own_home : (g : ℕ) → Has (slots_in (thread_in now k)) g → ((home_of k).0 ≤ g) × (g + 4 ≤ (home_of k).1)
    own_home g has =
        subst (λ (at : ℕ × ℕ). (at.0 ≤ g) × (g + 4 ≤ at.1)) home (now_keeps g (subst (λ (o : Option RecordedThread). Has (slots_in o) g) now_own has))

    outside : AreOutside (home_of j) (slots_beside j 0 now.threads)
    outside g has =
        let w = of_others j 0 now.threads g has in
        elim (cases_eq w.0 k) [
          | inl mine ↦
              let at = own_home g (subst (λ (i : ℕ). Has (slots_in (thread_in now i)) g) mine w.1.2) in
              apart_homes k j g small low (λ e. other (sym e)) at.0 at.1
          | inr third ↦ by w.0 (thread_in v w.0) refl third (λ e. w.1.0 (omega (arith, e))) (omega (arith, w.1.1, now_numbered)) w.1.2
        ]
      where
        by : (i : ℕ) (o : Option RecordedThread) → thread_in v i ≡ o → (i ≡ k → ⊥) → (i ≡ j → ⊥) → i < THREADS → Has (slots_in (thread_in now i)) g → (g < (home_of j).0) ⊎ ((home_of j).1 ≤ g)
        by i None e third d l has = absurd (subst (λ (o : Option RecordedThread). Has (slots_in o) g) (now_other i third ∙ e) has)
        by i (Some y) e third d l has =
            let at = slots_lie x (state_for i y v) (keeps i y e) g (subst (λ (o : Option RecordedThread). Has (slots_in o) g) (now_other i third ∙ e) has) in
            apart_homes i j g l low d at.0 at.1

    same_guards : m.guards ≡ (memory_of s).guards
    same_guards = guards_for now.threads j u (now_other j other ∙ is) ∙ sym now_guards

    is_map : IsMap m
    is_map = record { segments = new_segments; guards = subst AreGuards (sym same_guards) kept.corresponds.map.guards; home = is_home j low }

    same_image : SameMap theirs.segments after.segments
    same_image =
        both_maps (image_start x.image).memory.segments theirs.segments after.segments kj.image
        (map_trans (image_start x.image).memory.segments s.segments after.segments kept.image (states_map (entries_for j now.pool) s.segments kept.corresponds.map.segments (sized_for j now.pool now_sized)))

    same_words : (g : ℕ) → Has (slots_of (u.first ∷ u.outer)) g → load_number 4 after.segments g ≡ load_number 4 theirs.segments g
    same_words g has =
        let stack : STACK_START ≤ g = let at = lies g has in omega (arith, at.0, low) in
        let beside : Has (slots_beside k 0 v.threads) g = beside_has k 0 j v.threads g (λ e. other (omega (arith, e))) (subst (λ (o : Option RecordedThread). Has (slots_in o) g) (sym is) has) in
        states_loads (entries_for j now.pool) s.segments kept.corresponds.map.segments (sized_for j now.pool now_sized) g stack
        ∙ leaves.words g beside
        ∙ states_loads (entries_for k v.pool) v.segments segments (sized_for k v.pool sized) g stack
        ∙ sym (states_loads (entries_for j v.pool) v.segments segments (sized_for j v.pool sized) g stack)

    new_state : (n : ℕ) → n < SLOTS → word m n STATE ≡ state_word (get_or after.entries n OutOfUse)
    new_state n h = states_word (entries_for j now.pool) s.segments kept.corresponds.map.segments (sized_for j now.pool now_sized) m refl n h

    new_other : (n i : ℕ) → n < SLOTS → i < SLOT_WORDS → (i ≡ STATE → ⊥) → word m n i ≡ word (memory_of s) n i
    new_other n i h l d =
        states_other (entries_for j now.pool) s.segments kept.corresponds.map.segments (sized_for j now.pool now_sized) m refl n i h l d
        ∙ word_segments (bare_memory s.segments) (memory_of s) refl n i

    is_small : (n i : ℕ) → n < SLOTS → i < CLOSED_WORDS → word m n i < 2 ^ 32
    is_small n i h l = elim (cases_eq i STATE) [
      | inl e ↦ subst (λ (p : ℕ). word m n p < 2 ^ 32) (sym e) (subst (λ (a : ℕ). a < 2 ^ 32) (sym (new_state n h)) (state_small (get_or after.entries n OutOfUse)))
      | inr d ↦ subst (λ (a : ℕ). a < 2 ^ 32) (sym (new_other n i h (omega (arith, l)) d)) (kept.corresponds.stands.shows.small n i h l)
    ]

    moved : (n : ℕ) → MovesSlot k (get_or v.pool n None) (get_or now.pool n None)
    moved = moved_at k v.pool now.pool now_moved

    -- what isn't the other thread's is no exception of this one
    idle_own : (o : Option OwnedException) → is_others k o ≡ false → IsIdle (entry_for j o)
    idle_own None e = refl
    idle_own (Some o) e = go (o.owner == j) refl
      where
        mine : o.owner ≡ k
        mine = eqb-true o.owner k (not_false (o.owner == k) e)
          where
            not_false : (b : Bool) → not b ≡ false → b ≡ true
            not_false true e = refl
            not_false false e = absurd cc

        go : (b : Bool) → (o.owner == j) ≡ b → IsIdle (cond b (Live o.exception) OutOfUse)
        go true q = absurd (other (sym (eqb-true o.owner j q) ∙ mine))
        go false q = refl

    old_entry : (n : ℕ) → n < SLOTS → get_or theirs.entries n OutOfUse ≡ entry_for j (get_or v.pool n None)
    old_entry n h = entry_at j n v.pool (omega (arith, h, sized))

    new_entry : (n : ℕ) → n < SLOTS → get_or after.entries n OutOfUse ≡ entry_for j (get_or now.pool n None)
    new_entry n h = entry_at j n now.pool (omega (arith, h, now_sized))

    same_or_idle : (n : ℕ) → (entry (lists_of after) n ≡ entry (lists_of theirs) n) ⊎ (IsIdle (entry (lists_of theirs) n) × IsIdle (entry (lists_of after) n))
    same_or_idle n = elim (cases_lt n SLOTS) [
      | inl h ↦ elim (moved n) [
        | inl a ↦ inl (new_entry n h ∙ ap (entry_for j) a.1 ∙ sym (old_entry n h))
        | inr b ↦ inr (subst IsIdle (sym (old_entry n h)) (idle_own _ b.0), subst IsIdle (sym (new_entry n h)) (idle_own _ b.1))
      ]
      | inr h ↦ inl (get_or_past after.entries n OutOfUse (omega (arith, h, sized_for j now.pool now_sized)) ∙ sym (get_or_past theirs.entries n OutOfUse (omega (arith, h, sized_for j v.pool sized))))
    ]

    still_idle : (n : ℕ) → IsIdle (entry (lists_of theirs) n) → IsIdle (entry (lists_of after) n)
    still_idle n idle = elim (same_or_idle n) [
      | inl e ↦ subst IsIdle (sym e) idle
      | inr b ↦ b.1
    ]

    same_record : (n i : ℕ) → n < SLOTS → i < CLOSED_WORDS → (IsIdle (entry (lists_of theirs) n) → ⊥) → word m n i ≡ word (memory_of theirs) n i
    same_record n i h l live = elim (moved n) [
      | inr b ↦ absurd (live (subst IsIdle (sym (old_entry n h)) (idle_own _ b.0)))
      | inl a ↦ elim (cases_eq i STATE) [
        | inl e ↦ subst (λ (p : ℕ). word m n p ≡ word (memory_of theirs) n p) (sym e)
            (new_state n h ∙ ap state_word (new_entry n h ∙ ap (entry_for j) a.1 ∙ sym (old_entry n h))
            ∙ sym (states_word (entries_for j v.pool) v.segments segments (sized_for j v.pool sized) (memory_of theirs) refl n h))
        | inr d ↦
            let out : get_or old.entries n OutOfUse ≡ OutOfUse = entry_at k n v.pool (omega (arith, h, sized)) ∙ others_entry k (get_or v.pool n None) a.0 in
            new_other n i h (omega (arith, l)) d ∙ leaves.closed n i h l out
            ∙ states_other (entries_for k v.pool) v.segments segments (sized_for k v.pool sized) (memory_of old) refl n i h (omega (arith, l)) d
            ∙ sym (states_other (entries_for j v.pool) v.segments segments (sized_for j v.pool sized) (memory_of theirs) refl n i h (omega (arith, l)) d)
      ]
    ]

    records : SameRecords (lists_of theirs) (lists_of after)
    records = record { caught = refl; cleanups = refl; uncaught = refl; sized = sized_for j now.pool now_sized; entries = same_or_idle }

    parts : SameParts theirs (lists_of after) after.segments after.beyond
    parts = record {
      map = is_map;
      outside = outside;
      image = same_image;
      words = all_words_same theirs.segments after.segments (u.first ∷ u.outer) same_words;
      small = is_small;
      records = same_record;
      others = λ n h idle. idle_shown (word m) n (entry (lists_of after) n) (still_idle n idle) (new_state n h);
    }

    pub other_keeps : Keeps x after
    other_keeps = other_events x (record (with_exceptions (lists_of after) theirs) { segments = after.segments; beyond = after.beyond }) s.events
        (laws.memory x theirs (lists_of after) after.segments after.beyond kj records parts)
