-- Entries in rising order of their keys: putting one in, and finding one.
use Rattle.std.proofs.Common.{◌≡◌, ℕ, ◌+◌, ◌<◌, ◌≤◌, true, false, cond, nat_eq, List, [], ◌∷◌, Option, Some, None, refl, sym, ◌∙◌, ap, inl, inr, arith}
use Rattle.std.proofs.lemmas.Bool.Decides.{nat_tests}
use Rattle.std.proofs.lemmas.Bool.{cases_lt, cases_eq}
use Rattle.std.specs.Map.{values_of, keys_of, lookup}
use Rattle.std.specs.Ordering.{nat_cmp}
use Rattle.std.specs.declared.cmp.Ordering.TheVariants.{Less, Equal, Greater}
use Rattle.std.specs.BTreeMap.{insert_entry, is_at}
use Rattle.std.specs.List.{AllByRecursion}
use Rattle.std.specs.List.Sorted.{IsStrictlySortedBy, IsPermutation}
use Rattle.std.proofs.lemmas.Map.Keys.{sorted_head, sorted_tail}
use Rattle.std.proofs.lemmas.List.Sorted.{IsPermutation-refl, IsPermutation-cons, IsPermutation-middle, IsPermutation-trans, IsPermutation-sym}

pub cmp_less : (x y : ℕ) → x < y → nat_cmp x y ≡ Less
cmp_less x y h = grind (arith, nat_tests)

pub cmp_equal : (x y : ℕ) → x ≡ y → nat_cmp x y ≡ Equal
cmp_equal x y h = grind (arith, nat_tests)

pub cmp_greater : (x y : ℕ) → y < x → nat_cmp x y ≡ Greater
cmp_greater x y h = grind (arith, nat_tests)

less_from : (x y : ℕ) → nat_cmp x y ≡ Less → x < y
less_from x y h = grind (arith, nat_tests)

pub test_eq : (x y : ℕ) → x ≡ y → nat_eq x y ≡ true
test_eq x y h = grind (arith, nat_tests)

pub test_ne : (x y : ℕ) → (x ≡ y → ⊥) → nat_eq x y ≡ false
test_ne x y h = grind (arith, nat_tests)

-- keys rise, from a number on
abbrev pub Rising : {X : Type 0} → ℕ → List (ℕ × X) → Type 0
Rising low [] = Unit {0}
Rising low (e ∷ es) = (low ≤ e.0) × Rising (e.0 + 1) es

pub rising_lower : {X : Type 0} (low high : ℕ) (es : List (ℕ × X)) → low ≤ high → Rising high es → Rising low es
rising_lower low high [] e h = tt
rising_lower low high (x ∷ es) e h = (omega (arith, h.0), h.1)

above_all : {X : Type 0} (k low : ℕ) (es : List (ℕ × X)) → k < low → Rising low es → AllByRecursion (λ y. nat_cmp k y ≡ Less) (keys_of es)
above_all k low [] e h = tt
above_all k low (x ∷ es) e h = (cmp_less k x.0 (omega (arith, h.0)), above_all k (x.0 + 1) es (omega (arith, h.0)) h.1)

pub sorted_from_rising : {X : Type 0} (low : ℕ) (es : List (ℕ × X)) → Rising low es → IsStrictlySortedBy nat_cmp (keys_of es)
unfolding IsStrictlySortedBy
sorted_from_rising low [] h = tt
sorted_from_rising low (e ∷ es) h = (above_all e.0 (e.0 + 1) es (omega arith) h.1, sorted_from_rising (e.0 + 1) es h.1)

rising_from_head : {X : Type 0} (k : ℕ) (es : List (ℕ × X)) → AllByRecursion (λ y. nat_cmp k y ≡ Less) (keys_of es) → IsStrictlySortedBy nat_cmp (keys_of es) → Rising (k + 1) es
rising_from_head k [] a s = tt
rising_from_head k (e ∷ es) a s =
    let above = less_from k e.0 a.0 in
    (omega arith, rising_from_head e.0 es (sorted_head nat_cmp e.0 (keys_of es) s) (sorted_tail nat_cmp e.0 (keys_of es) s))

pub rising_from_sorted : {X : Type 0} (es : List (ℕ × X)) → IsStrictlySortedBy nat_cmp (keys_of es) → Rising 0 es
rising_from_sorted [] s = tt
rising_from_sorted (e ∷ es) s = (omega arith, rising_from_head e.0 es (sorted_head nat_cmp e.0 (keys_of es) s) (sorted_tail nat_cmp e.0 (keys_of es) s))

pub rising_insert : {X : Type 0} (low : ℕ) (es : List (ℕ × X)) (k : ℕ) (v : X) → low ≤ k → Rising low es → Rising low (insert_entry nat_cmp es k v)
rising_insert low [] k v e h = (e, tt)
rising_insert low (x ∷ es) k v e h =
    elim (cases_lt k x.0) [
      | inl below ↦ rw (cmp_less k x.0 below) (e, (omega arith, h.1))
      | inr at ↦ elim (cases_eq k x.0) [
        | inl same ↦ rw (cmp_equal k x.0 same) (h.0, h.1)
        | inr other ↦
            let above : x.0 < k = omega arith in
            rw (cmp_greater k x.0 above) (h.0, rising_insert (x.0 + 1) es k v (omega arith) h.1)
      ]
    ]

-- ---- looking up

abbrev pub at_key : {X : Type 0} → ℕ → List (ℕ × X) → Option X
at_key k es = lookup (is_at (nat_cmp k)) es

pub lookup_below : {X : Type 0} (k low : ℕ) (es : List (ℕ × X)) → k < low → Rising low es → at_key k es ≡ None
lookup_below k low [] e h = refl
lookup_below k low (x ∷ es) e h = rw (cmp_less k x.0 (omega (arith, h.0))) (lookup_below k (x.0 + 1) es (omega (arith, h.0)) h.1)

pub lookup_first : {X : Type 0} (k : ℕ) (x : ℕ × X) (es : List (ℕ × X)) → k ≡ x.0 → at_key k (x ∷ es) ≡ Some x.1
lookup_first k x es e = rw (cmp_equal k x.0 e) refl

pub lookup_rest : {X : Type 0} (k : ℕ) (x : ℕ × X) (es : List (ℕ × X)) → (k ≡ x.0 → ⊥) → at_key k (x ∷ es) ≡ at_key k es
lookup_rest k x es other =
    elim (cases_lt k x.0) [
      | inl below ↦ rw (cmp_less k x.0 below) refl
      | inr at ↦ let above : x.0 < k = omega arith in rw (cmp_greater k x.0 above) refl
    ]

picked : {X : Type 0} (a k : ℕ) (v : X) (o : Option X) → a ≡ k → Some v ≡ cond (nat_eq a k) (Some v) o
picked a k v o e = rw (test_eq a k e) refl

passed : {X : Type 0} (a k : ℕ) (v : X) (o : Option X) → (a ≡ k → ⊥) → o ≡ cond (nat_eq a k) (Some v) o
passed a k v o e = rw (test_ne a k e) refl

-- the key is found where it was put, and every other one where it was
front_insert : {X : Type 0} (a : ℕ) (es : List (ℕ × X)) (k : ℕ) (v : X) → at_key a ((k, v) ∷ es) ≡ cond (nat_eq a k) (Some v) (at_key a es)
front_insert a es k v =
    elim (cases_eq a k) [
      | inl same ↦ lookup_first a (k, v) es same ∙ picked a k v (at_key a es) same
      | inr other ↦ lookup_rest a (k, v) es other ∙ passed a k v (at_key a es) other
    ]

over_insert : {X : Type 0} (a : ℕ) (x : ℕ × X) (es : List (ℕ × X)) (k : ℕ) (v : X) → k ≡ x.0 → at_key a ((x.0, v) ∷ es) ≡ cond (nat_eq a k) (Some v) (at_key a (x ∷ es))
over_insert a x es k v e =
    elim (cases_eq a k) [
      | inl same ↦ lookup_first a (x.0, v) es (same ∙ e) ∙ picked a k v (at_key a (x ∷ es)) same
      | inr other ↦
          let apart : a ≡ x.0 → ⊥ = λ h. other (h ∙ sym e) in
          lookup_rest a (x.0, v) es apart ∙ sym (lookup_rest a x es apart) ∙ passed a k v (at_key a (x ∷ es)) other
    ]

later_insert : {X : Type 0} (a : ℕ) (x : ℕ × X) (es more : List (ℕ × X)) (k : ℕ) (v : X) → x.0 < k → at_key a more ≡ cond (nat_eq a k) (Some v) (at_key a es)
    → at_key a (x ∷ more) ≡ cond (nat_eq a k) (Some v) (at_key a (x ∷ es))
later_insert a x es more k v above ih =
    elim (cases_eq a x.0) [
      | inl here ↦
          let apart : a ≡ k → ⊥ = omega arith in
          lookup_first a x more here ∙ sym (lookup_first a x es here) ∙ passed a k v (at_key a (x ∷ es)) apart
      | inr other ↦ lookup_rest a x more other ∙ ih ∙ ap (λ (o : Option _). cond (nat_eq a k) (Some v) o) (sym (lookup_rest a x es other))
    ]

pub lookup_insert : {X : Type 0} (a : ℕ) (es : List (ℕ × X)) (k : ℕ) (v : X) → at_key a (insert_entry nat_cmp es k v) ≡ cond (nat_eq a k) (Some v) (at_key a es)
lookup_insert a [] k v = front_insert a [] k v
lookup_insert a (x ∷ es) k v =
    elim (cases_lt k x.0) [
      | inl below ↦ rw (cmp_less k x.0 below) (front_insert a (x ∷ es) k v)
      | inr at ↦ elim (cases_eq k x.0) [
        | inl same ↦ rw (cmp_equal k x.0 same) (over_insert a x es k v same)
        | inr apart ↦
            let above : x.0 < k = omega arith in
            rw (cmp_greater k x.0 above) (later_insert a x es (insert_entry nat_cmp es k v) k v above (lookup_insert a es k v))
      ]
    ]

-- ---- the values that are held

-- at a key where there is none, the entry comes beside the others
pub insert_permutes : {X : Type 0} (es : List (ℕ × X)) (k : ℕ) (v : X) → at_key k es ≡ None → IsPermutation (v ∷ values_of es) (values_of (insert_entry nat_cmp es k v))
insert_permutes [] k v h = IsPermutation-refl (v ∷ [])
insert_permutes (x ∷ es) k v h =
    elim (cases_lt k x.0) [
      | inl below ↦ rw (cmp_less k x.0 below) (IsPermutation-refl (v ∷ x.1 ∷ values_of es))
      | inr at ↦ elim (cases_eq k x.0) [
        | inl same ↦ let found = lookup_first k x es same in absurd cc
        | inr other ↦
            let above : x.0 < k = omega arith in
            let rest = insert_permutes es k v (sym (lookup_rest k x es other) ∙ h) in
            rw (cmp_greater k x.0 above)
            (IsPermutation-trans (v ∷ x.1 ∷ values_of es) (x.1 ∷ v ∷ values_of es) (x.1 ∷ values_of (insert_entry nat_cmp es k v))
            (IsPermutation-sym (x.1 ∷ v ∷ values_of es) (v ∷ x.1 ∷ values_of es) (IsPermutation-middle (x.1 ∷ []) v (values_of es)))
            (IsPermutation-cons x.1 (v ∷ values_of es) (values_of (insert_entry nat_cmp es k v)) rest))
      ]
    ]
