-- Slots that are looked at one after the other.
use Rattle.std.proofs.Common.{◌≡◌, ℕ, zero, suc, ◌+◌, ◌*◌, ◌<◌, ◌≤◌, ◌==◌, ◌⊎◌, inl, inr, Bool, true, false, cond, List, [], ◌∷◌, ◌++◌, length, get_or, take, drop, None, refl, sym, ap, ◌∙◌, arith}
use Rattle.std.proofs.Math.ListN.{get_or-eq_default}
use Rattle.std.proofs.lemmas.Bool.{cases_lt, eqb-true}
use Rattle.std.proofs.lemmas.List.{append-nil, append_assoc, ext_get_or, get_or_default, get_or-drop, take-append-drop, take_more, length-take-le}
use Rattle.eh_bus.specs.Memory.{Memory}
use Rattle.eh_bus.specs.declared.map.TheConstants.{POOL_START, SLOT_SIZE}
use Rattle.eh_bus.proofs.PartLaws.{host_other}
use Rattle.eh_cxa.specs.Words.{Pool, Write, write, word, set_slot_word, set_slot_words}
use Rattle.eh_cxa.specs.declared.layout.TheConstants.{SLOTS, STATE}
use Rattle.eh_cxa.specs.declared.state.TheConstants.{FREE}
use Rattle.thread_memory.specs.Owners.{state_seen_by, holding_of, holding_after, holdings_after, owners_after, change_of, changes_from, unowned_from, unused, AreFree, AreUnused, UpdatesOwners}
use Rattle.thread_memory.specs.declared.owners.Holding.{Holding}

-- ---- what slots hold

held_length : (thread : ℕ) (w : Pool) (i : ℕ) (owners : List Holding) → length (holdings_after thread w i owners) ≡ length owners
held_length thread w i [] = refl
held_length thread w i (h ∷ more) = ap suc (held_length thread w (suc i) more)

held_at : (thread : ℕ) (w : Pool) (i j : ℕ) (owners : List Holding) (d : Holding) → j < length owners
    → get_or (holdings_after thread w i owners) j d ≡ holding_after thread (w (i + j) STATE) (get_or owners j d)
held_at thread w i j [] d l = absurd (omega arith)
held_at thread w i zero (h ∷ more) d l = let e : i + zero ≡ i = omega arith in rw e refl
held_at thread w i (suc j) (h ∷ more) d l = let e : i + suc j ≡ suc i + j = omega arith in rw e (held_at thread w (suc i) j more d (omega arith))

pub all_noted : (thread : ℕ) (w : Pool) (old new : List Holding) (k : ℕ) → length old ≤ k → UpdatesOwners thread w old new k → new ≡ owners_after thread w old
all_noted thread w old [] k l n = sym (none (holdings_after thread w 0 old) (omega (arith, n.sized, held_length thread w 0 old)))
  where
    none : (xs : List Holding) → length xs ≡ 0 → xs ≡ []
    none [] e = refl
    none (x ∷ xs) e = absurd (omega arith)
all_noted thread w old (h ∷ more) k l n =
    ext_get_or h (h ∷ more) (holdings_after thread w 0 old) (n.sized ∙ sym (held_length thread w 0 old))
    (λ j b. n.told j h (omega (arith, n.sized)) ∙ sym (at j (omega (arith, n.sized))))
  where
    at : (j : ℕ) → j < length old → get_or (holdings_after thread w 0 old) j h ≡ holding_after thread (w j STATE) (get_or old j h)
    at j b = let e : 0 + j ≡ j = omega arith in rw e at (held_at thread w 0 j old h b)

-- of slots that are free and nobody's nothing has to be told
unused_stays : (thread : ℕ) (state : ℕ) → state ≡ FREE → holding_after thread state unused ≡ unused
unused_stays thread state e = rw e refl

pub rest_noted : (thread : ℕ) (w : Pool) (old new : List Holding) (used : ℕ) → length old ≡ SLOTS → AreFree w used → AreUnused old used → UpdatesOwners thread w old new used
    → new ≡ owners_after thread w old
rest_noted thread w old new used sized free kept n = all_noted thread w old new SLOTS (omega (arith, sized)) (record { sized = n.sized; told = told; rest = λ j d h. past j d h })
  where
    past : (j : ℕ) (d : Holding) → SLOTS ≤ j → get_or new j d ≡ get_or old j d
    past j d h = get_or-eq_default new d (omega (arith, sized, n.sized)) ∙ sym (get_or-eq_default old d (omega (arith, sized)))

    told : (j : ℕ) (d : Holding) → j < SLOTS → get_or new j d ≡ holding_after thread (w j STATE) (get_or old j d)
    told j d h = by (cases_lt j used)
      where
        by : (j < used) ⊎ (used ≤ j) → get_or new j d ≡ holding_after thread (w j STATE) (get_or old j d)
        by (inl l) = n.told j d l
        by (inr l) =
            let here : get_or old j d ≡ unused = get_or_default old j d unused (omega (arith, sized)) ∙ kept j l in
            n.rest j d l ∙ here ∙ sym (unused_stays thread (w j STATE) (free j l h)) ∙ ap (holding_after thread (w j STATE)) (sym here)

-- from where none of those that were looked at is in use, and none of the others was
pub all_unused : (thread : ℕ) (w : Pool) (old new : List Holding) (used count last : ℕ) → used ≤ count → AreUnused old used → UpdatesOwners thread w old new count
    → ((s : ℕ) → last ≤ s → s < count → get_or new s unused ≡ unused) → AreUnused new last
all_unused thread w old new used count last more kept n first s low = by (cases_lt s count)
  where
    by : (s < count) ⊎ (count ≤ s) → get_or new s unused ≡ unused
    by (inl l) = first s low l
    by (inr l) = n.rest s unused l ∙ kept s (omega arith)

-- where a slot is told to be so the memory has it free
told_free : (thread state : ℕ) (h : Holding) → holding_after thread state h ≡ unused → state ≡ FREE
told_free thread state h e = by (state == state_seen_by thread h) refl e
  where
    by : (t : Bool) → (state == state_seen_by thread h) ≡ t → cond t h (holding_of thread state) ≡ unused → state ≡ FREE
    by true same e = eqb-true state (state_seen_by thread h) same ∙ ap (state_seen_by thread) e
    by false same e = ap (λ (o : Holding). o.state) e

pub free_noted : (thread : ℕ) (w : Pool) (old new : List Holding) (used last : ℕ) → AreFree w used → UpdatesOwners thread w old new used → AreUnused new last → AreFree w last
free_noted thread w old new used last free n kept s low h = by (cases_lt s used)
  where
    by : (s < used) ⊎ (used ≤ s) → w s STATE ≡ FREE
    by (inl l) = told_free thread (w s STATE) (get_or old s unused) (sym (n.told s unused l) ∙ kept s low)
    by (inr l) = free s l h

-- ---- slots that are nobody's

nobodys_length : (w : Pool) (i n : ℕ) → length (unowned_from w i n) ≡ n
unfolding unowned_from
nobodys_length w i zero = refl
nobodys_length w i (suc n) = ap suc (nobodys_length w (suc i) n)

nobodys_at : (w : Pool) (i n j : ℕ) (d : Holding) → j < n → get_or (unowned_from w i n) j d ≡ record { owner = None; state = w (i + j) STATE }
unfolding unowned_from
nobodys_at w i zero j d l = absurd (omega arith)
nobodys_at w i (suc n) zero d l = let e : i + zero ≡ i = omega arith in rw e refl
nobodys_at w i (suc n) (suc j) d l = let e : i + suc j ≡ suc i + j = omega arith in rw e (nobodys_at w (suc i) n j d (omega arith))

pub record Nobodys (w : Pool) (slots : List Holding) (k : ℕ) : Type 0 where
  pub sized : length slots ≡ SLOTS
  pub told : (j : ℕ) (d : Holding) → j < k → get_or slots j d ≡ record { owner = None; state = w j STATE }

pub all_nobodys : (w : Pool) (slots : List Holding) (k : ℕ) → SLOTS ≤ k → Nobodys w slots k → slots ≡ unowned_from w 0 SLOTS
all_nobodys w [] k l n = absurd (omega (arith, n.sized))
all_nobodys w (h ∷ more) k l n =
    ext_get_or h (h ∷ more) (unowned_from w 0 SLOTS) (n.sized ∙ sym (nobodys_length w 0 SLOTS)) (λ j b. n.told j h (omega (arith, n.sized)) ∙ sym (at j (omega (arith, n.sized))))
  where
    at : (j : ℕ) → j < SLOTS → get_or (unowned_from w 0 SLOTS) j h ≡ record { owner = None; state = w j STATE }
    at j b = let e : 0 + j ≡ j = omega arith in rw e at (nobodys_at w 0 SLOTS j h b)

-- ---- the writes of a switch

put_append : (xs ys : List Write) (m : Memory) → set_slot_words (xs ++ ys) m ≡ set_slot_words ys (set_slot_words xs m)
put_append [] ys m = refl
put_append (x ∷ xs) ys m = put_append xs ys (set_slot_word m x.slot x.place x.value)

-- one slot more
changes_more : (old new i : ℕ) (xs : List Holding) (h : Holding) (m : Memory)
    → set_slot_words (changes_from old new i (xs ++ h ∷ [])) m ≡ set_slot_words (change_of old new (i + length xs) h) (set_slot_words (changes_from old new i xs) m)
changes_more old new i [] h m = let e : i + 0 ≡ i = omega arith in rw (e, append-nil (change_of old new i h)) refl
changes_more old new i (x ∷ xs) h m =
    let e : i + length (x ∷ xs) ≡ suc i + length xs = omega arith in
    rw e (
    put_append (change_of old new i x) (changes_from old new (suc i) (xs ++ h ∷ [])) m
    ∙ changes_more old new (suc i) xs h (set_slot_words (change_of old new i x) m)
    ∙ ap (set_slot_words (change_of old new (suc i + length xs) h)) (sym (put_append (change_of old new i x) (changes_from old new (suc i) xs) m))
    )

-- of slots that are free and nobody's none is written
none_written : (old new i : ℕ) (owners : List Holding) → ((j : ℕ) → get_or owners j unused ≡ unused) → changes_from old new i owners ≡ []
none_written old new i [] free = refl
none_written old new i (h ∷ more) free =
    let first : h ≡ unused = free 0 in
    ap (λ (o : Holding). change_of old new i o ++ changes_from old new (suc i) more) first ∙ none_written old new (suc i) more (λ j. free (suc j))

changes_append : (old new i : ℕ) (xs ys : List Holding) → changes_from old new i (xs ++ ys) ≡ changes_from old new i xs ++ changes_from old new (i + length xs) ys
changes_append old new i [] ys = let e : i + 0 ≡ i = omega arith in rw e refl
changes_append old new i (x ∷ xs) ys =
    let e : i + length (x ∷ xs) ≡ suc i + length xs = omega arith in
    rw e (ap (λ (ws : List Write). change_of old new i x ++ ws) (changes_append old new (suc i) xs ys)
    ∙ sym (append_assoc (change_of old new i x) (changes_from old new (suc i) xs) (changes_from old new (suc i + length xs) ys)))

pub first_written : (old new used : ℕ) (owners : List Holding) → AreUnused owners used → changes_from old new 0 (take used owners) ≡ changes_from old new 0 owners
first_written old new used owners free =
    let rest : changes_from old new (0 + length (take used owners)) (drop used owners) ≡ [] =
    none_written old new (0 + length (take used owners)) (drop used owners) (λ j. get_or-drop used owners j unused ∙ free (used + j) (omega arith)) in
    sym (ap (changes_from old new 0) (sym (take-append-drop used owners)) ∙ changes_append old new 0 (take used owners) (drop used owners)
    ∙ ap (λ (ws : List Write). changes_from old new 0 (take used owners) ++ ws) rest ∙ append-nil (changes_from old new 0 (take used owners)))

-- a word of a later slot stays
put_later : (m : Memory) (i s v : ℕ) → i < s → word (set_slot_word m i STATE v) s STATE ≡ word m s STATE
unfolding word set_slot_word
put_later m i s v l = host_other m (POOL_START + SLOT_SIZE * i + 4 * STATE) v (POOL_START + SLOT_SIZE * s + 4 * STATE) (inl (omega arith))

pub written_before : (old new i s : ℕ) (owners : List Holding) (m : Memory) → i + length owners ≤ s → word (set_slot_words (changes_from old new i owners) m) s STATE ≡ word m s STATE
written_before old new i s [] m l = refl
written_before old new i s (h ∷ more) m l = by (state_seen_by old h == state_seen_by new h) (λ n. written_before old new (suc i) s more n (omega arith))
  where
    by : (t : Bool) → ((n : Memory) → word (set_slot_words (changes_from old new (suc i) more) n) s STATE ≡ word n s STATE)
        → word (set_slot_words (cond t [] (write i STATE (state_seen_by new h) ∷ []) ++ changes_from old new (suc i) more) m) s STATE ≡ word m s STATE
    by true next = next m
    by false next = next (set_slot_word m i STATE (state_seen_by new h)) ∙ put_later m i s (state_seen_by new h) (omega arith)

pub shows_one : (old new k : ℕ) (owners : List Holding) (d : Holding) (m : Memory) → k < length owners
    → set_slot_words (changes_from old new 0 (take (k + 1) owners)) m ≡ set_slot_words (change_of old new k (get_or owners k d)) (set_slot_words (changes_from old new 0 (take k owners)) m)
shows_one old new k owners d m l =
    let e : 0 + length (take k owners) ≡ k = omega (arith, length-take-le k owners (omega arith)) in
    rw (take_more owners k d l) (rw e at (changes_more old new 0 (take k owners) (get_or owners k d) m))
