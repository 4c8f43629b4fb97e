-- State words of the pool that are written anew.
use Rattle.std.proofs.Common.{◌≡◌, ℕ, zero, suc, ◌+◌, ◌-◌, ◌*◌, ◌^◌, ◌<◌, ◌≤◌, inl, inr, ◌==◌, Bool, true, false, cond, List, [], ◌∷◌, ◌++◌, length, get_or, take, drop, map, Option, Some, None, refl, sym, ap, subst, ◌∙◌, arith, eq-eqb, not}
use Rattle.std.proofs.lemmas.Bool.{eqb-true, ne_eqb}
use Rattle.std.proofs.lemmas.List.{take-append-drop, drop-drop, length-drop}
use Rattle.std.proofs.lemmas.List.Elements.{All-drop}
use Rattle.eh_bus.specs.Map.{AreSegments, IsMap, IsHome, SameMap}
use Rattle.eh_bus.specs.Memory.{Memory, load_number, store_number, number_in, host_store}
use Rattle.eh_bus.specs.Segment.{Segment, AreBytes, Apart, holds, number_at, with_number_at}
use Rattle.eh_bus.specs.declared.map.TheConstants.{POOL_START, SLOT_SIZE, STACK_START, STACK_END}
use Rattle.eh_bus.proofs.ByteLaws.{bytes_back}
use Rattle.eh_bus.proofs.Kept.{inside}
use Rattle.eh_bus.proofs.PartLaws.{host_other}
use Rattle.byteorder.specs.Endian.{little_bytes}
use Rattle.eh_cxa.specs.Lists.{Entry, Free, OutOfUse, Live}
use Rattle.eh_cxa.specs.States.{code}
use Rattle.eh_cxa.specs.Words.{Pool, Write, write, word, set_slot_word, with_word, with_all, set_slot_words}
use Rattle.eh_cxa.specs.declared.layout.TheConstants.{SLOTS, SLOT_WORDS, STATE}
use Rattle.eh_cxa.specs.declared.state.State.{State}
use Rattle.eh_cxa.specs.declared.state.State.TheVariants.{Fresh, Flying, Landed, Caught, Ended}
use Rattle.eh_cxa.proofs.Pools.{AllFit, Agrees, all_agree, all_is_map, put_is_map}
use Rattle.sim_machines.specs.Activations.{state_word}
use Rattle.sim_relation.proofs.Tame.{AreTame, tame_keeps}
use Rattle.thread_memory.specs.Homes.{home_of}
use Rattle.thread_memory.specs.Owners.{state_seen_by, changes_from}
use Rattle.thread_memory.specs.declared.homes.TheConstants.{THREADS}
use Rattle.thread_laws.specs.RecordedThreads.{OwnedException, entry_for, entries_for, states_from, with_states}
use Rattle.thread_laws.specs.Standing.{holding}

-- ---- a word that stands there already

list_same : (i n : ℕ) (new bs : List ℕ) → new ≡ take n (drop i bs) → take i bs ++ (new ++ drop (i + n) bs) ≡ bs
list_same i n new bs o = rw (o, ← drop-drop n i bs, take-append-drop n (drop i bs), take-append-drop i bs) refl

seg_same : (n a : ℕ) (s : Segment) → holds s a n ≡ true → AreBytes s.bytes → with_number_at n s a (number_at n s a) ≡ s
seg_same n a s h b =
    let p = inside s a n h in
    let i = a - s.start in
    let room : n ≤ length (drop i s.bytes) = rw length-drop (omega (arith, p.high)) in
    let o = bytes_back n (drop i s.bytes) room (All-drop (λ x. x < 256) i s.bytes b) in
    ap (λ (bs : List ℕ). record s { bytes = bs }) (list_same i n (little_bytes n (number_at n s a)) s.bytes o)

written_same : (n a : ℕ) (ss : List Segment) → ((k : ℕ) (d : Segment) → k < length ss → AreBytes (get_or ss k d).bytes) → store_number n ss a (number_in n ss a) ≡ ss
written_same n a [] b = refl
written_same n a (s ∷ more) b = go (holds s a n) refl (written_same n a more (λ k d l. b (suc k) d (omega arith)))
  where
    go : (t : Bool) → holds s a n ≡ t → store_number n more a (number_in n more a) ≡ more
        → cond t (with_number_at n s a (cond t (number_at n s a) (number_in n more a)) ∷ more) (s ∷ store_number n more a (cond t (number_at n s a) (number_in n more a))) ≡ s ∷ more
    go true h next = ap (λ (x : Segment). x ∷ more) (seg_same n a s h (b 0 s (omega arith)))
    go false h next = ap (λ (ss : List Segment). s ∷ ss) next

-- to write it changes nothing
pub put_same : (m : Memory) (n k v : ℕ) → IsMap m → word m n k ≡ v → set_slot_word m n k v ≡ m
unfolding word set_slot_word
put_same m n k v x e =
    ap (λ (u : ℕ). host_store m (POOL_START + SLOT_SIZE * n + 4 * k) u) (sym e)
    ∙ ap (λ (ss : List Segment). record m { segments = ss }) (written_same 4 (POOL_START + SLOT_SIZE * n + 4 * k) m.segments ((x.segments).bytes))

-- ---- words by their segments alone

abbrev pub bare_memory : List Segment → Memory
bare_memory segments = record { segments = segments; guards = []; home = home_of 0 }

pub put_segments : (ws : List Write) (m new : Memory) → m.segments ≡ new.segments → (set_slot_words ws m).segments ≡ (set_slot_words ws new).segments
unfolding set_slot_word
put_segments [] m new e = e
put_segments (x ∷ more) m new e =
    put_segments more (set_slot_word m x.slot x.place x.value) (set_slot_word new x.slot x.place x.value)
    (ap (λ (ss : List Segment). store_number 4 ss (POOL_START + SLOT_SIZE * x.slot + 4 * x.place) x.value) e)

pub word_segments : (m new : Memory) → m.segments ≡ new.segments → (n k : ℕ) → word m n k ≡ word new n k
unfolding word
word_segments m new e n k = ap (λ (ss : List Segment). number_in 4 ss (POOL_START + SLOT_SIZE * n + 4 * k)) e

pub is_home : (thread : ℕ) → thread < THREADS → IsHome (home_of thread)
is_home thread h = record { low = omega (arith, h); rises = omega (arith, h); high = omega arith; low_aligned = omega (arith, h); high_aligned = omega (arith, h) }

pub bare_map : (segments : List Segment) → AreSegments segments → IsMap (bare_memory segments)
bare_map segments x = record { segments = x; guards = (let l : STACK_START ≤ STACK_END = omega arith in l); home = is_home 0 (omega arith) }

-- ---- state words

code_small : (state : State) → code state < 2 ^ 32
code_small Fresh = omega arith
code_small Flying = omega arith
code_small Landed = omega arith
code_small Caught = omega arith
code_small Ended = omega arith

pub state_small : (e : Entry) → state_word e < 2 ^ 32
state_small Free = omega arith
state_small OutOfUse = omega arith
state_small (Live r) = code_small r.state

states_fit : (i : ℕ) (es : List Entry) → i + length es ≤ SLOTS → AllFit (states_from i es)
states_fit i [] l = tt
states_fit i (e ∷ more) l = ((omega (arith, l), omega arith, state_small e), states_fit (suc i) more (omega (arith, l)))

pub states_tame : (i : ℕ) (es : List Entry) → i + length es ≤ SLOTS → AreTame [] (states_from i es)
states_tame i [] l = tt
states_tame i (e ∷ more) l = (record { slot = omega (arith, l); place = omega arith; beside = inr (λ h. absurd h) }, states_tame (suc i) more (omega (arith, l)))

other_place : (i : ℕ) (es : List Entry) (w : Pool) (n k : ℕ) → (k ≡ STATE → ⊥) → with_all (states_from i es) w n k ≡ w n k
other_place i [] w n k d = refl
other_place i (e ∷ more) w n k d = other_place (suc i) more (with_word w (write i STATE (state_word e))) n k d ∙ rw (ne_eqb k STATE d) refl

other_slot : (i : ℕ) (es : List Entry) (w : Pool) (n : ℕ) → n < i → with_all (states_from i es) w n STATE ≡ w n STATE
other_slot i [] w n l = refl
other_slot i (e ∷ more) w n l =
    other_slot (suc i) more (with_word w (write i STATE (state_word e))) n (omega (arith, l)) ∙ rw (ne_eqb n i (λ q. absurd (omega (arith, l, q)))) refl

same_is : (n : ℕ) → (n == n) ≡ true
same_is n = eq-eqb n n refl

here : (i j : ℕ) (es : List Entry) (w : Pool) → j < length es → with_all (states_from i es) w (i + j) STATE ≡ state_word (get_or es j OutOfUse)
here i j [] w l = absurd (omega (arith, l))
here i zero (e ∷ more) w l =
    let at : i + zero ≡ i = omega arith in
    other_slot (suc i) more (with_word w (write i STATE (state_word e))) (i + zero) (omega arith) ∙ rw (at, same_is i) refl
here i (suc j) (e ∷ more) w l =
    let at : i + suc j ≡ suc i + j = omega arith in
    rw at (here (suc i) j more (with_word w (write i STATE (state_word e))) (omega (arith, l)))

-- ---- segments with these states

module _ (es : List Entry) (segments : List Segment) (x : AreSegments segments) (sized : length es ≡ SLOTS) where
  abbrev new : Memory
  new = set_slot_words (states_from 0 es) (bare_memory segments)

  room : 0 + length es ≤ SLOTS
  room = omega (arith, sized)

  agrees : Agrees (with_all (states_from 0 es) (word (bare_memory segments))) new
  agrees = all_agree (states_from 0 es) (word (bare_memory segments)) (bare_memory segments) (bare_map segments x) (states_fit 0 es room) (λ n k h i. refl)

  pub states_segments : AreSegments (with_states es segments)
  states_segments = (all_is_map (states_from 0 es) (bare_memory segments) (bare_map segments x)).segments

  pub states_word : (m : Memory) → m.segments ≡ with_states es segments → (n : ℕ) → n < SLOTS → word m n STATE ≡ state_word (get_or es n OutOfUse)
  states_word m e n h =
      word_segments m new e n STATE ∙ agrees n STATE h (omega arith)
      ∙ (let z : 0 + n ≡ n = omega arith in rw z at (here 0 n es (word (bare_memory segments)) (omega (arith, h, sized))))

  pub states_other : (m : Memory) → m.segments ≡ with_states es segments → (n k : ℕ) → n < SLOTS → k < SLOT_WORDS → (k ≡ STATE → ⊥) → word m n k ≡ word (bare_memory segments) n k
  states_other m e n k h l d = word_segments m new e n k ∙ agrees n k h l ∙ other_place 0 es (word (bare_memory segments)) n k d

  pub states_loads : (g : ℕ) → STACK_START ≤ g → load_number 4 (with_states es segments) g ≡ load_number 4 segments g
  states_loads g h = (tame_keeps [] (states_from 0 es) (bare_memory segments) (bare_map segments x) (states_tame 0 es room)).loads g h

  pub states_map : SameMap segments (with_states es segments)
  states_map = (tame_keeps [] (states_from 0 es) (bare_memory segments) (bare_map segments x) (states_tame 0 es room)).map

-- where they stand there already nothing changes
none_changes : (i : ℕ) (es : List Entry) (m : Memory) → IsMap m → ((j : ℕ) → j < length es → word m (i + j) STATE ≡ state_word (get_or es j OutOfUse)) → set_slot_words (states_from i es) m ≡ m
none_changes i [] m x h = refl
none_changes i (e ∷ more) m x h =
    let z : i + 0 ≡ i = omega arith in
    let first : set_slot_word m i STATE (state_word e) ≡ m = put_same m i STATE (state_word e) x (subst (λ (k : ℕ). word m k STATE ≡ state_word e) z (h 0 (omega arith))) in
    ap (λ (o : Memory). set_slot_words (states_from (suc i) more) o) first
    ∙ none_changes (suc i) more m x (λ j l. let s : i + suc j ≡ suc i + j = omega arith in subst (λ (k : ℕ). word m k STATE ≡ state_word (get_or more j OutOfUse)) s (h (suc j) (omega (arith, l))))

pub states_stand : (es : List Entry) (segments : List Segment) (m : Memory) → AreSegments segments → m.segments ≡ segments
    → ((n : ℕ) → n < length es → word m n STATE ≡ state_word (get_or es n OutOfUse)) → with_states es segments ≡ segments
states_stand es segments m x e h =
    ap (λ (o : Memory). o.segments)
    (none_changes 0 es (bare_memory segments) (bare_map segments x)
    (λ j l. let z : 0 + j ≡ j = omega arith in rw z (word_segments (bare_memory segments) m (sym e) j STATE ∙ h j l)))

-- ---- a switch writes those that change

pub seen_state : (thread : ℕ) (o : Option OwnedException) → state_seen_by thread (holding o) ≡ state_word (entry_for thread o)
seen_state thread None = refl
seen_state thread (Some o) = go (o.owner == thread)
  where
    go : (b : Bool) → cond (not b) (state_word OutOfUse) (code o.exception.state) ≡ state_word (cond b (Live o.exception) OutOfUse)
    go true = refl
    go false = refl

apart : (i j v : ℕ) (m : Memory) → word (set_slot_word m i STATE v) (suc i + j) STATE ≡ word m (suc i + j) STATE
unfolding word set_slot_word
apart i j v m =
    host_other m (POOL_START + SLOT_SIZE * i + 4 * STATE) v (POOL_START + SLOT_SIZE * (suc i + j) + 4 * STATE)
    (let a : Apart (POOL_START + SLOT_SIZE * i + 4 * STATE) 4 (POOL_START + SLOT_SIZE * (suc i + j) + 4 * STATE) 4 = inl (omega arith) in a)

module _ (old new : ℕ) where
  pub switch_same : (i : ℕ) (pool : List (Option OwnedException)) (m : Memory) → IsMap m → i + length pool ≤ SLOTS
      → ((j : ℕ) → j < length pool → word m (i + j) STATE ≡ state_seen_by old (holding (get_or pool j None)))
      → set_slot_words (changes_from old new i (map holding pool)) m ≡ set_slot_words (states_from i (entries_for new pool)) m
  switch_same i [] m x l h = refl
  switch_same i (o ∷ more) m x l h = go (state_seen_by old (holding o) == state_seen_by new (holding o)) refl (switch_same (suc i) more)
    where
      v : ℕ
      v = state_word (entry_for new o)

      first : word m i STATE ≡ state_seen_by old (holding o)
      first = let z : i + 0 ≡ i = omega arith in subst (λ (k : ℕ). word m k STATE ≡ state_seen_by old (holding o)) z (h 0 (omega arith))

      later : (j : ℕ) → j < length more → word m (suc i + j) STATE ≡ state_seen_by old (holding (get_or more j None))
      later j k = let s : i + suc j ≡ suc i + j = omega arith in subst (λ (n : ℕ). word m n STATE ≡ state_seen_by old (holding (get_or more j None))) s (h (suc j) (omega (arith, k)))

      go : (b : Bool) → (state_seen_by old (holding o) == state_seen_by new (holding o)) ≡ b
          → ((n : Memory) → IsMap n → suc i + length more ≤ SLOTS → ((j : ℕ) → j < length more → word n (suc i + j) STATE ≡ state_seen_by old (holding (get_or more j None)))
          → set_slot_words (changes_from old new (suc i) (map holding more)) n ≡ set_slot_words (states_from (suc i) (entries_for new more)) n)
          → set_slot_words (cond b [] (write i STATE (state_seen_by new (holding o)) ∷ []) ++ changes_from old new (suc i) (map holding more)) m
          ≡ set_slot_words (states_from (suc i) (entries_for new more)) (set_slot_word m i STATE (state_word (entry_for new o)))
      go true e next =
          let same : set_slot_word m i STATE v ≡ m = put_same m i STATE v x (first ∙ eqb-true _ _ e ∙ seen_state new o) in
          next m x (omega (arith, l)) later ∙ ap (λ (n : Memory). set_slot_words (states_from (suc i) (entries_for new more)) n) (sym same)
      go false e next =
          ap (λ (u : ℕ). set_slot_words (changes_from old new (suc i) (map holding more)) (set_slot_word m i STATE u)) (seen_state new o)
          ∙ next (set_slot_word m i STATE v) (put_is_map m i STATE v x) (omega (arith, l)) (λ j k. apart i j (state_word (entry_for new o)) m ∙ later j k)
