-- Guarded words as flags, and the flags as bits of numbers.
use Rattle.std.proofs.Common.{◌≡◌, ℕ, zero, suc, ◌+◌, ◌-◌, ◌*◌, ◌/◌, ◌%◌, ◌^◌, ◌<◌, ◌≤◌, ◌⊎◌, inl, inr, Bool, true, false, ◌==◌, ◌&&◌, ◌||◌, nat_le, nat_lt, min, max, cond, replicate, List, [], ◌∷◌, length, get_or, set, filter, Some, None, refl, sym, ◌∙◌, arith, ap, w64}
use Rattle.std.proofs.lemmas.List.{length-replicate, get_or-replicate, length-set, get_or-set_same, get_or-set_other, get_or_past, ext_get_or}
use Rattle.std.proofs.lemmas.List.FromFn.{length-map-range_with_len, get_or-map-range_with_len}
use Rattle.std.proofs.lemmas.Nat.Bits.{bit_at-zero, bit_at-lt, bit_at-trailing_zeros, bit_at_set_same, bit_at_set_other, bit_at_and, bit_at_mask_inside, bit_at_mask_below, ones_shl}
use Rattle.std.proofs.lemmas.Bool.{cases_lt, cases_eq, ltb-true, ltb-false, eqb-true, eqb-false, lt-ltb, le-ltb, le-leb, lt-leb}
use Rattle.std.proofs.lemmas.Nat.{and_mask, shr-shr}
use Rattle.std.specs.Prelude.{bit_and, bit_or}
use Rattle.std.specs.Int.{bit_at, trailing_zeros}
use Rattle.std.specs.Int.Count.{trailing_of_zero}
use Rattle.eh_word.specs.Bytes.{zeros, length-zeros}
use Rattle.eh_bus.specs.Guards.{insert_sorted, RiseFrom}
use Rattle.eh_bus.specs.Memory.{guard_hit, stays_guarded}
use Rattle.mem_guards.specs.Flags.{flagged_words, flag_in, flags_of, AreFlags, AreKept, IsClear, ClearsBits, ReleasesFlags, AreFree, AreOff}
use Rattle.mem_guards.specs.declared.guards.TheConstants.{HOMES, HOME_NUMBERS, HOME_SIZE, HOME_WORDS, NUMBERS, NUMBER_BITS}
use Rattle.eh_bus.specs.declared.map.TheConstants.{STACK_END, STACK_START, STACK_WORDS}

lower : (low high : ℕ) (guards : List ℕ) → low ≤ high → RiseFrom high guards → RiseFrom low guards
lower low high [] h r = omega arith
lower low high (g ∷ more) h r = (omega (arith, r.0), r.1)

-- ---- flags as bits

pub flags_length : (numbers : List ℕ) → length (flags_of numbers) ≡ NUMBER_BITS * length numbers
unfolding flags_of
flags_length numbers = length-map-range_with_len (flag_in numbers) 0 (NUMBER_BITS * length numbers)

pub flag_inside : (numbers : List ℕ) (i : ℕ) → i / NUMBER_BITS < length numbers → get_or (flags_of numbers) i false ≡ flag_in numbers i
unfolding flags_of
flag_inside numbers i h = get_or-map-range_with_len (flag_in numbers) 0 (NUMBER_BITS * length numbers) i i false (omega arith) (omega arith)

pub flag_outside : (numbers : List ℕ) (i : ℕ) → length numbers ≤ i / NUMBER_BITS → get_or (flags_of numbers) i false ≡ false
flag_outside numbers i h = get_or_past (flags_of numbers) i false (omega (arith, flags_length numbers))

-- after the numbers every bit is 0
flag_at : (numbers : List ℕ) (i : ℕ) → get_or (flags_of numbers) i false ≡ flag_in numbers i
flag_at numbers i = go (cases_lt (i / NUMBER_BITS) (length numbers))
  where
    go : ((i / NUMBER_BITS < length numbers) ⊎ (length numbers ≤ i / NUMBER_BITS)) → get_or (flags_of numbers) i false ≡ flag_in numbers i
    go (inl h) = flag_inside numbers i h
    go (inr h) = flag_outside numbers i h ∙ sym (rw (get_or_past numbers (i / NUMBER_BITS) 0 h, bit_at-zero (i % NUMBER_BITS)) refl)

get_or-zeros : (n k : ℕ) → get_or (zeros n) k 0 ≡ 0
unfolding zeros
get_or-zeros zero k = refl
get_or-zeros (suc n) zero = refl
get_or-zeros (suc n) (suc k) = get_or-zeros n k

none_set : (low : ℕ) (flags : List Bool) → ((i : ℕ) → get_or flags i false ≡ false) → flagged_words low flags ≡ []
none_set low [] h = refl
none_set low (true ∷ flags) h = absurd (let e : true ≡ false = h 0 in cc)
none_set low (false ∷ flags) h = none_set (low + 4) flags (λ i. h (suc i))

pub none_flagged : (low n : ℕ) → flagged_words low (flags_of (zeros n)) ≡ []
none_flagged low n = none_set low (flags_of (zeros n)) clear
  where
    clear : (i : ℕ) → get_or (flags_of (zeros n)) i false ≡ false
    clear i = flag_at (zeros n) i ∙ rw (get_or-zeros n (i / NUMBER_BITS), bit_at-zero (i % NUMBER_BITS)) refl

pub clear_are : AreFlags (zeros NUMBERS) (replicate HOMES HOME_NUMBERS)
clear_are = record {
  whole = length-zeros NUMBERS;
  homes = length-replicate HOMES HOME_NUMBERS;
  each = λ home h. record { within = omega (arith, get_or-replicate HOMES home HOME_NUMBERS 0 h); none = λ k l. get_or-zeros NUMBERS (HOME_NUMBERS * home + k) };
}

-- the number that `n | 1 << k` is
abbrev with_bit : ℕ → ℕ → ℕ
with_bit n k = bit_or n (1 * 2 ^ k % 2 ^ 64)

-- a bit that is set in its number sets its flag alone
pub set_flags : (numbers : List ℕ) (i : ℕ) → i / NUMBER_BITS < length numbers
    → flags_of (set numbers (i / NUMBER_BITS) (with_bit (get_or numbers (i / NUMBER_BITS) 0) (i % NUMBER_BITS))) ≡ set (flags_of numbers) i true
set_flags numbers i h = ext_get_or false (flags_of new) (set (flags_of numbers) i true) size (λ j _. each j)
  where
    at : ℕ
    at = i / NUMBER_BITS

    new : List ℕ
    new = set numbers at (with_bit (get_or numbers at 0) (i % NUMBER_BITS))

    size : length (flags_of new) ≡ length (set (flags_of numbers) i true)
    size = omega (arith, flags_length new, flags_length numbers, length-set numbers at (with_bit (get_or numbers at 0) (i % NUMBER_BITS)), length-set (flags_of numbers) i true)

    here : get_or (flags_of new) i false ≡ get_or (set (flags_of numbers) i true) i false
    here = flag_at new i ∙ rw (get_or-set_same numbers at (with_bit (get_or numbers at 0) (i % NUMBER_BITS)) 0 h, bit_at_set_same w64 (get_or numbers at 0) (i % NUMBER_BITS) (omega arith))
        (sym (get_or-set_same (flags_of numbers) i true false (omega (arith, flags_length numbers))))

    beside : (j : ℕ) → (j ≡ i → ⊥) → j / NUMBER_BITS ≡ at → flag_in new j ≡ flag_in numbers j
    beside j n e = rw (e, get_or-set_same numbers at (with_bit (get_or numbers at 0) (i % NUMBER_BITS)) 0 h, bit_at_set_other w64 (get_or numbers at 0) (i % NUMBER_BITS) (omega arith) (j % NUMBER_BITS) (omega (arith, n))) refl

    apart : (j : ℕ) → (j / NUMBER_BITS ≡ at → ⊥) → flag_in new j ≡ flag_in numbers j
    apart j n = rw (get_or-set_other numbers at (j / NUMBER_BITS) (with_bit (get_or numbers at 0) (i % NUMBER_BITS)) 0 n) refl

    each : (j : ℕ) → get_or (flags_of new) j false ≡ get_or (set (flags_of numbers) i true) j false
    each j = go (cases_eq j i) (cases_eq (j / NUMBER_BITS) at)
      where
        go : ((j ≡ i) ⊎ (j ≡ i → ⊥)) → ((j / NUMBER_BITS ≡ at) ⊎ (j / NUMBER_BITS ≡ at → ⊥)) → get_or (flags_of new) j false ≡ get_or (set (flags_of numbers) i true) j false
        go (inl e) f = rw e here
        go (inr n) (inl e) = flag_at new j ∙ beside j n e ∙ sym (flag_at numbers j) ∙ sym (get_or-set_other (flags_of numbers) i j true false n)
        go (inr n) (inr m) = flag_at new j ∙ apart j m ∙ sym (flag_at numbers j) ∙ sym (get_or-set_other (flags_of numbers) i j true false n)

-- the number that `n & MAX << k` is
pub masked : (n k j : ℕ) → k < NUMBER_BITS → j < NUMBER_BITS → bit_at (bit_and n ((2 ^ 64 - 1) * 2 ^ k % 2 ^ 64)) j ≡ cond (nat_lt j k) 0 (bit_at n j)
masked n k j h l = rw (ones_shl 64 k (omega arith)) (bit_at_and n (2 ^ 64 - 2 ^ k) j ∙ go (cases_lt j k))
  where
    go : ((j < k) ⊎ (k ≤ j)) → min (bit_at n j) (bit_at (2 ^ 64 - 2 ^ k) j) ≡ cond (nat_lt j k) 0 (bit_at n j)
    go (inl b) = rw (bit_at_mask_below k 64 j b, lt-ltb j k b) (omega arith)
    go (inr b) = rw (bit_at_mask_inside k 64 j b l, le-ltb j k b) (omega (arith, bit_at-lt n j))

pub unmasked : (n k : ℕ) → n < 2 ^ 64 → k ≡ 0 → bit_and n ((2 ^ 64 - 1) * 2 ^ k % 2 ^ 64) ≡ n
unmasked n k h e = rw (e, and_mask n 64) (omega (arith, h))

-- a filter of the flagged words clears their flags
pub flagged_filter : (p : ℕ → Bool) (low : ℕ) (old new : List Bool) → length new ≡ length old
    → ((i : ℕ) → i < length old → get_or new i false ≡ (get_or old i false && p (low + 4 * i)))
    → flagged_words low new ≡ filter p (flagged_words low old)
flagged_filter p low [] [] l k = refl
flagged_filter p low [] (y ∷ new) l k = absurd (omega arith)
flagged_filter p low (x ∷ old) [] l k = absurd (omega arith)
flagged_filter p low (x ∷ old) (y ∷ new) l k = go x y (p low) refl here (flagged_filter p (low + 4) old new (omega arith) later)
  where
    here : y ≡ (x && p low)
    here = let e = k 0 (omega arith) in let f : low + 4 * 0 ≡ low = omega arith in rw f at e

    later : (i : ℕ) → i < length old → get_or new i false ≡ (get_or old i false && p (low + 4 + 4 * i))
    later i h = let e = k (suc i) (omega arith) in let f : low + 4 * suc i ≡ low + 4 + 4 * i = omega arith in rw f at e

    go : (x y q : Bool) → p low ≡ q → y ≡ (x && q) → flagged_words (low + 4) new ≡ filter p (flagged_words (low + 4) old) → flagged_words low (y ∷ new) ≡ filter p (flagged_words low (x ∷ old))
    go true true true e f next = rw e (ap (λ gs. low ∷ gs) next)
    go true true false e f next = absurd (cc)
    go true false true e f next = absurd (cc)
    go true false false e f next = rw e next
    go false true q e f next = absurd (cc)
    go false false q e f next = next

-- setting a flag puts its word in
pub flagged_set : (low i : ℕ) (flags : List Bool) → i < length flags → flagged_words low (set flags i true) ≡ insert_sorted (low + 4 * i) (flagged_words low flags)
flagged_set low i [] h = absurd (omega arith)
flagged_set low zero (x ∷ flags) h = let e : low + 4 * 0 ≡ low = omega arith in rw e (at_first x)
  where
    above : (high : ℕ) (fs : List Bool) → low < high → low ∷ flagged_words high fs ≡ insert_sorted low (flagged_words high fs)
    above high [] l = refl
    above high (true ∷ fs) l = first (nat_lt high low) refl (high == low) refl
      where
        first : (t : Bool) → nat_lt high low ≡ t → (u : Bool) → (high == low) ≡ u
            → low ∷ high ∷ flagged_words (high + 4) fs ≡ cond t (high ∷ insert_sorted low (flagged_words (high + 4) fs)) (cond u (high ∷ flagged_words (high + 4) fs) (low ∷ high ∷ flagged_words (high + 4) fs))
        first true t u v = let o = ltb-true _ _ t in absurd (omega arith)
        first false t true v = let o = eqb-true _ _ v in absurd (omega arith)
        first false t false v = refl
    above high (false ∷ fs) l = above (high + 4) fs (omega arith)

    at_first : (x : Bool) → flagged_words low (true ∷ flags) ≡ insert_sorted low (flagged_words low (x ∷ flags))
    at_first true = same (nat_lt low low) refl (low == low) refl
      where
        same : (t : Bool) → nat_lt low low ≡ t → (u : Bool) → (low == low) ≡ u
            → low ∷ flagged_words (low + 4) flags ≡ cond t (low ∷ insert_sorted low (flagged_words (low + 4) flags)) (cond u (low ∷ flagged_words (low + 4) flags) (low ∷ low ∷ flagged_words (low + 4) flags))
        same true t u v = let o = ltb-true _ _ t in absurd (omega arith)
        same false t true v = refl
        same false t false v = absurd (eqb-false low low v refl)
    at_first false = above (low + 4) flags (omega arith)
flagged_set low (suc i) (x ∷ flags) h = let e : low + 4 * suc i ≡ low + 4 + 4 * i = omega arith in rw e (later x (flagged_set (low + 4) i flags (omega arith)))
  where
    later : (x : Bool) → flagged_words (low + 4) (set flags i true) ≡ insert_sorted (low + 4 + 4 * i) (flagged_words (low + 4) flags)
        → flagged_words low (x ∷ set flags i true) ≡ insert_sorted (low + 4 + 4 * i) (flagged_words low (x ∷ flags))
    later true next = step (nat_lt low (low + 4 + 4 * i)) refl next
      where
        step : (t : Bool) → nat_lt low (low + 4 + 4 * i) ≡ t → flagged_words (low + 4) (set flags i true) ≡ insert_sorted (low + 4 + 4 * i) (flagged_words (low + 4) flags)
            → low ∷ flagged_words (low + 4) (set flags i true)
            ≡ cond t (low ∷ insert_sorted (low + 4 + 4 * i) (flagged_words (low + 4) flags))
            (cond (low == low + 4 + 4 * i) (low ∷ flagged_words (low + 4) flags) ((low + 4 + 4 * i) ∷ low ∷ flagged_words (low + 4) flags))
        step true t next = ap (λ gs. low ∷ gs) next
        step false t next = let o = ltb-false _ _ t in absurd (omega arith)
    later false next = next

-- no word from low on has a byte of an access below
none_above : (low a n : ℕ) (flags : List Bool) → a + n ≤ low → guard_hit (flagged_words low flags) a n ≡ None
none_above low a n [] h = refl
none_above low a n (true ∷ flags) h = go (nat_lt a (low + 4)) (nat_lt low (a + n)) refl (none_above (low + 4) a n flags (omega arith))
  where
    go : (t u : Bool) → nat_lt low (a + n) ≡ u → guard_hit (flagged_words (low + 4) flags) a n ≡ None → cond (t && u) (Some low) (guard_hit (flagged_words (low + 4) flags) a n) ≡ None
    go true true e next = let o = ltb-true _ _ e in absurd (omega arith)
    go true false e next = next
    go false u e next = next
none_above low a n (false ∷ flags) h = none_above (low + 4) a n flags (omega arith)

pub hit_below : (a n : ℕ) (flags : List Bool) → a < STACK_START → a % 4 + n ≤ 4 → guard_hit (flagged_words STACK_START flags) a n ≡ None
hit_below a n flags h k = none_above STACK_START a n flags (omega arith)

-- the flag of the word that holds the access decides
pub flagged_hit : (low a n i : ℕ) (flags : List Bool) → 0 < n → low + 4 * i ≤ a → a + n ≤ low + 4 * i + 4
    → guard_hit (flagged_words low flags) a n ≡ cond (get_or flags i false) (Some (low + 4 * i)) None
flagged_hit low a n i [] p h k = refl
flagged_hit low a n zero (x ∷ flags) p h k = let e : low + 4 * 0 ≡ low = omega arith in rw e (here x)
  where
    test : (t : Bool) → nat_lt a (low + 4) ≡ t → (u : Bool) → nat_lt low (a + n) ≡ u → cond (t && u) (Some low) (guard_hit (flagged_words (low + 4) flags) a n) ≡ Some low
    test true t true u = refl
    test true t false u = let o = ltb-false _ _ u in absurd (omega arith)
    test false t u v = let o = ltb-false _ _ t in absurd (omega arith)

    here : (x : Bool) → guard_hit (flagged_words low (x ∷ flags)) a n ≡ cond x (Some low) None
    here true = test (nat_lt a (low + 4)) refl (nat_lt low (a + n)) refl
    here false = none_above (low + 4) a n flags (omega arith)
flagged_hit low a n (suc i) (x ∷ flags) p h k =
    let e : low + 4 * suc i ≡ low + 4 + 4 * i = omega arith in
    rw e (later x (flagged_hit (low + 4) a n i flags p (omega arith) (omega arith)))
  where
    later : (x : Bool) → guard_hit (flagged_words (low + 4) flags) a n ≡ cond (get_or flags i false) (Some (low + 4 + 4 * i)) None
        → guard_hit (flagged_words low (x ∷ flags)) a n ≡ cond (get_or flags i false) (Some (low + 4 + 4 * i)) None
    later true next = skip (nat_lt a (low + 4)) refl next
      where
        skip : (t : Bool) → nat_lt a (low + 4) ≡ t → guard_hit (flagged_words (low + 4) flags) a n ≡ cond (get_or flags i false) (Some (low + 4 + 4 * i)) None
            → cond (t && nat_lt low (a + n)) (Some low) (guard_hit (flagged_words (low + 4) flags) a n) ≡ cond (get_or flags i false) (Some (low + 4 + 4 * i)) None
        skip true t next = let o = ltb-true _ _ t in absurd (omega arith)
        skip false t next = next
    later false next = next

-- the same where the access lies in one word, and the flag is told by its address
pub stack_hit : (a n : ℕ) (flags : List Bool) → 0 < n → a % 4 + n ≤ 4 → STACK_START ≤ a
    → guard_hit (flagged_words STACK_START flags) a n ≡ cond (get_or flags ((a - STACK_START) / 4) false) (Some (a - a % 4)) None
stack_hit a n flags p h k =
    let e : STACK_START + 4 * ((a - STACK_START) / 4) ≡ a - a % 4 = omega arith in
    let low : STACK_START + 4 * ((a - STACK_START) / 4) ≤ a = omega arith in
    let high : a + n ≤ STACK_START + 4 * ((a - STACK_START) / 4) + 4 = omega arith in
    let hit = flagged_hit STACK_START a n ((a - STACK_START) / 4) flags p low high in
    rw e at hit

-- setting the flag of the word at a puts it in
pub stack_set : (a : ℕ) (old new : List ℕ) → STACK_START ≤ a → a % 4 ≡ 0 → a < STACK_END → length old ≡ NUMBERS
    → flags_of new ≡ set (flags_of old) ((a - STACK_START) / 4) true
    → flagged_words STACK_START (flags_of new) ≡ insert_sorted a (flagged_words STACK_START (flags_of old))
stack_set a old new h e t w f =
    let same : STACK_START + 4 * ((a - STACK_START) / 4) ≡ a = omega arith in
    let s = flagged_set STACK_START ((a - STACK_START) / 4) (flags_of old) (omega (arith, flags_length old)) in
    rw f (rw same at s)

stays : (home : ℕ × ℕ) (a g : ℕ) → ((a ≤ g) ⊎ (g < home.0)) → stays_guarded home a g ≡ true
stays home a g (inl h) = rw (le-leb a g h)
stays home a g (inr h) = rw (lt-ltb g home.0 h) (or_true (nat_le a g))
  where
    or_true : (b : Bool) → (b || true) ≡ true
    or_true true = refl
    or_true false = refl

stays_not : (home : ℕ × ℕ) (a g : ℕ) → g < a → home.0 ≤ g → stays_guarded home a g ≡ false
stays_not home a g h l = rw (lt-leb a g h, le-ltb g home.0 l)

and_false : (b : Bool) → (b && false) ≡ false
and_false true = refl
and_false false = refl

and_true : (b : Bool) → (b && true) ≡ b
and_true true = refl
and_true false = refl

-- the flags of cleared numbers
module _ (old new : List ℕ) (from end : ℕ) (d : ClearsBits old new from end) where
  part_clear : (i : ℕ) → i / NUMBER_BITS ≡ end / NUMBER_BITS → i < end → bit_at (get_or new (i / NUMBER_BITS) 0) (i % NUMBER_BITS) ≡ 0
  part_clear i e h = rw e (d.part (i % NUMBER_BITS) (omega arith) ∙ rw (lt-ltb (i % NUMBER_BITS) (end % NUMBER_BITS) (omega (arith, e))) refl)

  part_kept : (i : ℕ) → i / NUMBER_BITS ≡ end / NUMBER_BITS → end ≤ i → bit_at (get_or new (i / NUMBER_BITS) 0) (i % NUMBER_BITS) ≡ bit_at (get_or old (i / NUMBER_BITS) 0) (i % NUMBER_BITS)
  part_kept i e h = rw e (d.part (i % NUMBER_BITS) (omega arith) ∙ rw (le-ltb (i % NUMBER_BITS) (end % NUMBER_BITS) (omega (arith, e))) refl)

  cleared_flag : (i : ℕ) → from * NUMBER_BITS ≤ i → i < end → get_or (flags_of new) i false ≡ false
  cleared_flag i l h = flag_at new i ∙ go (cases_eq (i / NUMBER_BITS) (end / NUMBER_BITS))
    where
      go : ((i / NUMBER_BITS ≡ end / NUMBER_BITS) ⊎ (i / NUMBER_BITS ≡ end / NUMBER_BITS → ⊥)) → flag_in new i ≡ false
      go (inl e) = rw (part_clear i e h) refl
      go (inr n) = rw (d.clear (i / NUMBER_BITS) (omega arith) (omega (arith, n)), bit_at-zero (i % NUMBER_BITS)) refl

  same_flag : (i : ℕ) → get_or new (i / NUMBER_BITS) 0 ≡ get_or old (i / NUMBER_BITS) 0 → get_or (flags_of new) i false ≡ get_or (flags_of old) i false
  same_flag i e = flag_at new i ∙ rw e refl ∙ sym (flag_at old i)

  kept_flag : (i : ℕ) → end ≤ i → get_or (flags_of new) i false ≡ get_or (flags_of old) i false
  kept_flag i h = go (cases_eq (i / NUMBER_BITS) (end / NUMBER_BITS))
    where
      go : ((i / NUMBER_BITS ≡ end / NUMBER_BITS) ⊎ (i / NUMBER_BITS ≡ end / NUMBER_BITS → ⊥)) → get_or (flags_of new) i false ≡ get_or (flags_of old) i false
      go (inl e) = flag_at new i ∙ rw (part_kept i e h) refl ∙ sym (flag_at old i)
      go (inr n) = same_flag i (d.above (i / NUMBER_BITS) (omega (arith, n)))

  below_flag : (i : ℕ) → i < from * NUMBER_BITS → get_or (flags_of new) i false ≡ get_or (flags_of old) i false
  below_flag i h = same_flag i (d.below (i / NUMBER_BITS) (omega arith))

-- a flag of a home before those that may be set is off
clear_flag : (numbers : List ℕ) (home clear i : ℕ) → IsClear numbers home clear → HOME_WORDS * home ≤ i → i < (HOME_NUMBERS * home + clear) * NUMBER_BITS
    → get_or (flags_of numbers) i false ≡ false
clear_flag numbers home clear i c l h =
    let k = i / NUMBER_BITS - HOME_NUMBERS * home in
    let e : HOME_NUMBERS * home + k ≡ i / NUMBER_BITS = omega arith in
    let z : get_or numbers (i / NUMBER_BITS) 0 ≡ 0 = rw e at (c.none k (omega arith)) in
    flag_at numbers i ∙ rw (z, bit_at-zero (i % NUMBER_BITS)) refl

-- nothing has to be done where all that would be cleared is clear
pub none_released : (numbers : List ℕ) (home clear end : ℕ) → IsClear numbers home clear → end ≤ (HOME_NUMBERS * home + clear) * NUMBER_BITS
    → ReleasesFlags numbers numbers (HOME_WORDS * home) end
none_released numbers home clear end c h = record { off = λ i l b. clear_flag numbers home clear i c l (omega arith); rest = λ i o. refl }

-- numbers that are cleared from the first that may have a bit on release the words of a home
pub home_released : (old new : List ℕ) (home clear end : ℕ) → IsClear old home clear → (HOME_NUMBERS * home + clear) * NUMBER_BITS ≤ end
    → ClearsBits old new (HOME_NUMBERS * home + clear) end → ReleasesFlags old new (HOME_WORDS * home) end
home_released old new home clear end c h d = record { off = λ i l b. off i l b (cases_lt i (from * NUMBER_BITS)); rest = λ i o. rest i o }
  where
    from : ℕ
    from = HOME_NUMBERS * home + clear

    off : (i : ℕ) → HOME_WORDS * home ≤ i → i < end → ((i < from * NUMBER_BITS) ⊎ (from * NUMBER_BITS ≤ i)) → get_or (flags_of new) i false ≡ false
    off i l b (inl o) = below_flag old new from end d i o ∙ clear_flag old home clear i c l o
    off i l b (inr o) = cleared_flag old new from end d i o b

    rest : (i : ℕ) → ((i < HOME_WORDS * home) ⊎ (end ≤ i)) → get_or (flags_of new) i false ≡ get_or (flags_of old) i false
    rest i (inl o) = below_flag old new from end d i (omega arith)
    rest i (inr o) = kept_flag old new from end d i o

pub stack_release : (a low first end high : ℕ) (old new : List ℕ) → low ≡ STACK_START + HOME_SIZE * first → length old ≡ NUMBERS → length new ≡ length old
    → ((i : ℕ) → i < end → STACK_START + 4 * i < a)
    → ((i : ℕ) → end ≤ i → i < STACK_WORDS → a ≤ STACK_START + 4 * i)
    → ReleasesFlags old new (HOME_WORDS * first) end
    → flagged_words STACK_START (flags_of new) ≡ filter (stays_guarded (low, high) a) (flagged_words STACK_START (flags_of old))
stack_release a low first end high old new e f l below rest d =
    flagged_filter (stays_guarded home a) STACK_START (flags_of old) (flags_of new) (omega (arith, flags_length old, flags_length new, l))
    (λ i h. go i h (cases_lt i end) (cases_lt i (HOME_WORDS * first)))
  where
    home : ℕ × ℕ
    home = (low, high)

    kept : (i : ℕ) → ((i < HOME_WORDS * first) ⊎ (end ≤ i)) → ((a ≤ STACK_START + 4 * i) ⊎ (STACK_START + 4 * i < low))
        → get_or (flags_of new) i false ≡ (get_or (flags_of old) i false && stays_guarded home a (STACK_START + 4 * i))
    kept i o p = rw (d.rest i o, stays home a (STACK_START + 4 * i) p) (sym (and_true (get_or (flags_of old) i false)))

    go : (i : ℕ) → i < length (flags_of old) → ((i < end) ⊎ (end ≤ i)) → ((i < HOME_WORDS * first) ⊎ (HOME_WORDS * first ≤ i))
        → get_or (flags_of new) i false ≡ (get_or (flags_of old) i false && stays_guarded home a (STACK_START + 4 * i))
    go i h b (inl o) = kept i (inl o) (inr (omega (arith, e)))
    go i h (inl b) (inr o) =
        let p = below i b in
        rw (d.off i o b, stays_not home a (STACK_START + 4 * i) p (omega (arith, e))) (sym (and_false (get_or (flags_of old) i false)))
    go i h (inr b) (inr o) = kept i (inr b) (inl (rest i b (omega (arith, flags_length old, f))))

-- whole numbers that are cleared, and a mask for the bits that are left
pub cleared_before : (old mid : List ℕ) (from end v : ℕ) → from ≤ end / NUMBER_BITS → end / NUMBER_BITS < length mid
    → ((k : ℕ) → from ≤ k → k < end / NUMBER_BITS → get_or mid k 0 ≡ 0)
    → ((k : ℕ) → ((k < from) ⊎ (end / NUMBER_BITS ≤ k)) → get_or mid k 0 ≡ get_or old k 0)
    → ((j : ℕ) → j < NUMBER_BITS → bit_at v j ≡ cond (nat_lt j (end % NUMBER_BITS)) 0 (bit_at (get_or mid (end / NUMBER_BITS) 0) j))
    → (end % NUMBER_BITS ≡ 0 → v ≡ get_or mid (end / NUMBER_BITS) 0)
    → ClearsBits old (set mid (end / NUMBER_BITS) v) from end
cleared_before old mid from end v r w gone rest bits none = record {
  clear = λ k l h. other k (omega (arith, h)) ∙ gone k l h;
  part = λ j l. rw (here, ← same) (bits j l);
  none = λ z. here ∙ none z ∙ same;
  below = λ k l. other k (omega (arith, l, r)) ∙ rest k (inl l);
  above = λ k l. other k (omega (arith, l)) ∙ rest k (inr (omega (arith, l)));
}
  where
    here : get_or (set mid (end / NUMBER_BITS) v) (end / NUMBER_BITS) 0 ≡ v
    here = get_or-set_same mid (end / NUMBER_BITS) v 0 w

    same : get_or mid (end / NUMBER_BITS) 0 ≡ get_or old (end / NUMBER_BITS) 0
    same = rest (end / NUMBER_BITS) (inr (omega arith))

    other : (k : ℕ) → (k ≡ end / NUMBER_BITS → ⊥) → get_or (set mid (end / NUMBER_BITS) v) k 0 ≡ get_or mid k 0
    other k n = get_or-set_other mid (end / NUMBER_BITS) k v 0 n

-- a home whose numbers are all 0 has no word left
pub home_emptied : (old new : List ℕ) (home clear : ℕ) → IsClear old home clear
    → ((k : ℕ) → HOME_NUMBERS * home + clear ≤ k → k < HOME_NUMBERS * home + HOME_NUMBERS → get_or new k 0 ≡ 0)
    → ((k : ℕ) → ((k < HOME_NUMBERS * home + clear) ⊎ (HOME_NUMBERS * home + HOME_NUMBERS ≤ k)) → get_or new k 0 ≡ get_or old k 0)
    → ReleasesFlags old new (HOME_WORDS * home) (HOME_WORDS * (home + 1))
home_emptied old new home clear c gone rest =
    let w = c.within in
    home_released old new home clear (HOME_WORDS * (home + 1)) c (omega (arith, w)) record {
      clear = λ k l h. gone k l (omega (arith, h));
      part = λ j l. let e = rest (HOME_WORDS * (home + 1) / NUMBER_BITS) (inr (omega arith)) in let z : HOME_WORDS * (home + 1) % NUMBER_BITS ≡ 0 = omega arith in rw (e, z, le-ltb j 0 (omega arith)) refl;
      none = λ z. rest (HOME_WORDS * (home + 1) / NUMBER_BITS) (inr (omega arith));
      below = λ k l. rest k (inl l);
      above = λ k l. rest k (inr (omega (arith, l)));
    }

-- what is released up to a word, and then from there on
pub released_on : (old mid new : List ℕ) (low at end : ℕ) → low ≤ at → at ≤ end → ReleasesFlags old mid low at → ReleasesFlags mid new at end → ReleasesFlags old new low end
released_on old mid new low at end l h r s = record { off = λ i p q. off i p q (cases_lt i at); rest = λ i o. rest i o }
  where
    off : (i : ℕ) → low ≤ i → i < end → ((i < at) ⊎ (at ≤ i)) → get_or (flags_of new) i false ≡ false
    off i p q (inl o) = s.rest i (inl o) ∙ r.off i p o
    off i p q (inr o) = s.off i o q

    rest : (i : ℕ) → ((i < low) ⊎ (end ≤ i)) → get_or (flags_of new) i false ≡ get_or (flags_of old) i false
    rest i (inl o) = s.rest i (inl (omega arith)) ∙ r.rest i (inl o)
    rest i (inr o) = s.rest i (inr o) ∙ r.rest i (inr (omega arith))

-- nothing is released where no word is named
pub released_nowhere : (numbers : List ℕ) (low end : ℕ) → end ≤ low → ReleasesFlags numbers numbers low end
released_nowhere numbers low end h = record { off = λ i l b. absurd (omega arith); rest = λ i o. refl }

-- nothing is released where all homes that are passed are empty
pub empty_released : (numbers clear : List ℕ) (empty first last : ℕ) → AreKept numbers clear empty → last ≤ HOMES → last ≤ max first empty
    → ReleasesFlags numbers numbers (HOME_WORDS * first) (HOME_WORDS * last)
empty_released numbers clear empty first last k w h = record { off = λ i l b. off i l b; rest = λ i o. refl }
  where
    off : (i : ℕ) → HOME_WORDS * first ≤ i → i < HOME_WORDS * last → get_or (flags_of numbers) i false ≡ false
    off i l b =
        let home = i / HOME_WORDS in
        let c = (k.flags).each home (omega arith) in
        let e = k.none home (omega arith) in
        clear_flag numbers home HOME_NUMBERS i (rw e at c) (omega arith) (omega arith)

pub all_empty : (home : ℕ) → home < HOMES → get_or (replicate HOMES HOME_NUMBERS) home 0 ≡ HOME_NUMBERS
all_empty home h = get_or-replicate HOMES home HOME_NUMBERS 0 h

-- ---- runs of words

run_word : (a k : ℕ) (flags : List Bool) → a % 4 ≡ 0 → STACK_START ≤ a
    → guard_hit (flagged_words STACK_START flags) (a + 4 * k) 4 ≡ cond (get_or flags ((a - STACK_START) / 4 + k) false) (Some (a + 4 * k - (a + 4 * k) % 4)) None
run_word a k flags e l =
    let i : (a + 4 * k - STACK_START) / 4 ≡ (a - STACK_START) / 4 + k = omega arith in
    rw i at (stack_hit (a + 4 * k) 4 flags (omega arith) (omega arith) (omega arith))

pub free_off : (a count : ℕ) (flags : List Bool) → a % 4 ≡ 0 → STACK_START ≤ a → a < STACK_END → AreOff flags ((a - STACK_START) / 4) count → AreFree (flagged_words STACK_START flags) a count
free_off a count flags e l h o = record {
  low = l;
  below = h;
  high = omega (arith, o.within);
  free = λ k b. run_word a k flags e l ∙ rw (o.off k b) refl;
}

is_off : (g : ℕ) (b : Bool) → cond b (Some g) None ≡ None → b ≡ false
is_off g false q = refl
is_off g true q = absurd (cc)

pub off_free : (a count : ℕ) (flags : List Bool) → a % 4 ≡ 0 → AreFree (flagged_words STACK_START flags) a count → AreOff flags ((a - STACK_START) / 4) count
off_free a count flags e f = record {
  within = omega (arith, f.low, f.high);
  off = λ k b. is_off (a + 4 * k - (a + 4 * k) % 4) (get_or flags ((a - STACK_START) / 4 + k) false) (sym (run_word a k flags e f.low) ∙ f.free k b);
}

-- a flag is a bit of what is left of its number, shifted down to an earlier one
rest_flag : (numbers : List ℕ) (i k : ℕ) → i % NUMBER_BITS + k < NUMBER_BITS → get_or (flags_of numbers) (i + k) false ≡ (bit_at (get_or numbers (i / NUMBER_BITS) 0 / 2 ^ (i % NUMBER_BITS)) k == 1)
rest_flag numbers i k h =
    let at : (i + k) / NUMBER_BITS ≡ i / NUMBER_BITS = omega arith in
    let of : (i + k) % NUMBER_BITS ≡ i % NUMBER_BITS + k = omega arith in
    flag_at numbers (i + k) ∙ rw (at, of) (sym (ap (λ (n : ℕ). n % 2 == 1) (shr-shr (get_or numbers (i / NUMBER_BITS) 0) (i % NUMBER_BITS) k)))

-- the lowest bit that is set tells of those below it
record Lowest (m t : ℕ) : Type 0 where
  below : (k : ℕ) → k < t → bit_at m k ≡ 0
  set : t < 64 → bit_at m t ≡ 1

lowest : (m : ℕ) → m < 2 ^ 64 → Lowest m (trailing_zeros w64 m)
lowest zero h = record { below = λ k l. bit_at-zero k; set = λ l. absurd (omega (arith, trailing_of_zero 64)) }
lowest (suc n) h = let t = bit_at-trailing_zeros w64 (suc n) (omega arith) h in record { below = t.2; set = λ l. t.1 }

pub bits_zero : (m count : ℕ) → m < 2 ^ 64 → count ≤ trailing_zeros w64 m → (k : ℕ) → k < count → bit_at m k ≡ 0
bits_zero m count f t k b = (lowest m f).below k (omega arith)

pub bits_not_zero : (m count : ℕ) → m < 2 ^ 64 → count ≤ 64 → trailing_zeros w64 m < count → ((k : ℕ) → k < count → bit_at m k ≡ 0) → ⊥
bits_not_zero m count f l t z = let on = (lowest m f).set (omega arith) in let off = z (trailing_zeros w64 m) t in omega (arith, on, off)

-- flags of one number, by the bits of what is left of it
pub bits_off : (numbers : List ℕ) (i count : ℕ) → i < STACK_WORDS → count ≤ NUMBER_BITS - i % NUMBER_BITS
    → ((k : ℕ) → k < count → bit_at (get_or numbers (i / NUMBER_BITS) 0 / 2 ^ (i % NUMBER_BITS)) k ≡ 0)
    → AreOff (flags_of numbers) i count
bits_off numbers i count l h z = record { within = omega arith; off = λ k b. rest_flag numbers i k (omega arith) ∙ rw (z k b) refl }

pub off_bits : (numbers : List ℕ) (i count : ℕ) → count ≤ NUMBER_BITS - i % NUMBER_BITS → AreOff (flags_of numbers) i count
    → (k : ℕ) → k < count → bit_at (get_or numbers (i / NUMBER_BITS) 0 / 2 ^ (i % NUMBER_BITS)) k ≡ 0
off_bits numbers i count h o k b =
    let f = sym (rest_flag numbers i k (omega arith)) ∙ o.off k b in
    let n = eqb-false (bit_at (get_or numbers (i / NUMBER_BITS) 0 / 2 ^ (i % NUMBER_BITS)) k) 1 f in
    omega (arith, n, bit_at-lt (get_or numbers (i / NUMBER_BITS) 0 / 2 ^ (i % NUMBER_BITS)) k)
