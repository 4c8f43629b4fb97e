-- What halving finds in a list in rising order.
use Rattle.std.proofs.Common.{◌≡◌, ℕ, zero, suc, ◌+◌, ◌-◌, ◌<◌, ◌≤◌, Bool, true, false, cond, ◌&&◌, nat_le, nat_lt, nat_eq, List, [], ◌∷◌, length, get_or, fold, Option, Some, None, refl, sym, ◌∙◌, inl, inr, add-zero, arith}
use Rattle.std.proofs.lemmas.Bool.Decides.{nat_tests}
use Rattle.std.proofs.lemmas.Bool.{cases_lt, false≢true}
use Rattle.std.specs.List.{prefix_len, find, position_from}
use Rattle.std.specs.List.Sorted.{IsPartitionPoint, IsNonDecreasingBy}
use Rattle.std.proofs.lemmas.List.Sums.{prefix_len_passes, prefix_len_stops, prefix_len-le-length}

-- the place where a test begins to fail is the length of the front that passes
pub partition_is : {X : Type 0} (p : X → Bool) (xs : List X) (i : ℕ) (d : X) → i ≤ length xs → IsPartitionPoint (λ y. p y ≡ true) (λ y. p y ≡ false) xs i → i ≡ prefix_len p xs
partition_is p xs i d fits h =
    let most = prefix_len-le-length p xs in
    elim (cases_lt i (prefix_len p xs)) [
      | inl below ↦ absurd (false≢true (sym (h.1 i d (omega arith) (omega arith)) ∙ prefix_len_passes p xs i d below))
      | inr above ↦ elim (cases_lt (prefix_len p xs) i) [
        | inl past ↦ absurd (false≢true (sym (prefix_len_stops p xs d (omega arith)) ∙ h.0 (prefix_len p xs) d (omega arith) past))
        | inr same ↦ omega arith
      ]
    ]

-- keys that don't fall, from a number on
abbrev pub Ascend : {X : Type 0} → (X → ℕ) → ℕ → List X → Type 0
Ascend key low [] = Unit {0}
Ascend key low (x ∷ more) = (low ≤ key x) × Ascend key (key x) more

all_above : {X : Type 0} (key : X → ℕ) (low : ℕ) (xs : List X) → Ascend key low xs → (j : ℕ) (d : X) → j < length xs → low ≤ key (get_or xs j d)
all_above key low [] a j d h = absurd (omega arith)
all_above key low (x ∷ xs) a zero d h = a.0
all_above key low (x ∷ xs) a (suc j) d h = omega (arith, a.0, all_above key (key x) xs a.1 j d (omega arith))

pub non_decreasing : {X : Type 0} (key : X → ℕ) (low : ℕ) (xs : List X) → Ascend key low xs → IsNonDecreasingBy key xs
non_decreasing key low [] a i j d e h = absurd (omega arith)
non_decreasing key low (x ∷ xs) a zero zero d e h = omega arith
non_decreasing key low (x ∷ xs) a zero (suc j) d e h = all_above key (key x) xs a.1 j d (omega arith)
non_decreasing key low (x ∷ xs) a (suc i) zero d e h = absurd (omega arith)
non_decreasing key low (x ∷ xs) a (suc i) (suc j) d e h = non_decreasing key (key x) xs a.1 i j d (omega arith) (omega arith)

-- ---- ranges that rise and don't overlap

abbrev pub Apart : {X : Type 0} → (X → ℕ) → (X → ℕ) → ℕ → List X → Type 0
Apart begin end low [] = Unit {0}
Apart begin end low (x ∷ more) = (low ≤ begin x) × (begin x < end x) × Apart begin end (end x) more

abbrev pub within : {X : Type 0} → (X → ℕ) → (X → ℕ) → ℕ → X → Bool
within begin end a x = nat_le (begin x) a && nat_lt a (end x)

test_le : (x y : ℕ) → x ≤ y → nat_le x y ≡ true
test_le x y h = grind (arith, nat_tests)

test_gt : (x y : ℕ) → y < x → nat_le x y ≡ false
test_gt x y h = grind (arith, nat_tests)

test_lt : (x y : ℕ) → x < y → nat_lt x y ≡ true
test_lt x y h = grind (arith, nat_tests)

test_ge : (x y : ℕ) → y ≤ x → nat_lt x y ≡ false
test_ge x y h = grind (arith, nat_tests)

-- nothing that begins above holds it
none_above : {X : Type 0} (begin end : X → ℕ) (low a : ℕ) (xs : List X) → Apart begin end low xs → a < low
    → (prefix_len (λ x. nat_le (begin x) a) xs ≡ 0) × (find (within begin end a) xs ≡ None) × ((n : ℕ) → position_from (within begin end a) n xs ≡ None)
none_above begin end low a [] h below = (refl, refl, λ n. refl)
none_above begin end low a (x ∷ xs) h below =
    let rest = none_above begin end (end x) a xs h.2 (omega (arith, h.0, h.1)) in
    let above = test_gt (begin x) a (omega (arith, h.0)) in
    (rw above refl, rw above rest.1, λ n. rw above (rest.2 (n + 1)))

-- the last of k ranges, if a is below its end
abbrev pub last_of : {X : Type 0} → (X → ℕ) → ℕ → List X → ℕ → X → Option X
last_of end a xs k d = cond (nat_eq k 0) None (cond (nat_lt a (end (get_or xs (k - 1) d))) (Some (get_or xs (k - 1) d)) None)

abbrev pub place_of : {X : Type 0} → (X → ℕ) → ℕ → List X → ℕ → ℕ → X → Option ℕ
place_of end a xs n k d = cond (nat_eq k 0) None (cond (nat_lt a (end (get_or xs (k - 1) d))) (Some (n + (k - 1))) None)

last_step : {X : Type 0} (end : X → ℕ) (a : ℕ) (x : X) (xs : List X) (k : ℕ) (d : X) → end x ≤ a → last_of end a xs k d ≡ last_of end a (x ∷ xs) (1 + k) d
last_step end a x xs zero d h = rw (test_ge a (end x) h) refl
last_step end a x xs (suc k) d h =
    let e : 1 + suc k - 1 ≡ suc k = omega arith in
    let f : suc k - 1 ≡ k = omega arith in
    let t : nat_eq (suc k) 0 ≡ false = grind (arith, nat_tests) in
    let u : nat_eq (1 + suc k) 0 ≡ false = grind (arith, nat_tests) in
    rw (e, f, t, u) refl

place_step : {X : Type 0} (end : X → ℕ) (a : ℕ) (x : X) (xs : List X) (n k : ℕ) (d : X) → end x ≤ a → place_of end a xs (n + 1) k d ≡ place_of end a (x ∷ xs) n (1 + k) d
place_step end a x xs n zero d h = rw (test_ge a (end x) h) refl
place_step end a x xs n (suc k) d h =
    let e : 1 + suc k - 1 ≡ suc k = omega arith in
    let f : suc k - 1 ≡ k = omega arith in
    let t : nat_eq (suc k) 0 ≡ false = grind (arith, nat_tests) in
    let u : nat_eq (1 + suc k) 0 ≡ false = grind (arith, nat_tests) in
    let g : n + 1 + k ≡ n + suc k = omega arith in
    rw (e, f, t, u, g) refl

-- what is found, by the number of ranges that begin at a or below
pub find_range : {X : Type 0} (begin end : X → ℕ) (low a : ℕ) (xs : List X) → Apart begin end low xs → (d : X)
    → find (within begin end a) xs ≡ last_of end a xs (prefix_len (λ x. nat_le (begin x) a) xs) d
find_range begin end low a [] h d = refl
find_range begin end low a (x ∷ xs) h d =
    elim (cases_lt a (begin x)) [
      | inl above ↦
          let none = none_above begin end (end x) a xs h.2 (omega (arith, h.1)) in
          rw (test_gt (begin x) a above) none.1
      | inr at ↦ elim (cases_lt a (end x)) [
        | inl inside ↦
            let none = none_above begin end (end x) a xs h.2 inside in
            rw (test_le (begin x) a at, test_lt a (end x) inside, none.0) (rw (test_lt a (end x) inside) refl)
        | inr past ↦
            rw (test_le (begin x) a at, test_ge a (end x) past) (find_range begin end (end x) a xs h.2 d ∙ last_step end a x xs (prefix_len (λ x. nat_le (begin x) a) xs) d past)
      ]
    ]

pub position_range : {X : Type 0} (begin end : X → ℕ) (low a n : ℕ) (xs : List X) → Apart begin end low xs → (d : X)
    → position_from (within begin end a) n xs ≡ place_of end a xs n (prefix_len (λ x. nat_le (begin x) a) xs) d
position_range begin end low a n [] h d = refl
position_range begin end low a n (x ∷ xs) h d =
    elim (cases_lt a (begin x)) [
      | inl above ↦
          let none = none_above begin end (end x) a xs h.2 (omega (arith, h.1)) in
          rw (test_gt (begin x) a above) (none.2 (n + 1))
      | inr at ↦ elim (cases_lt a (end x)) [
        | inl inside ↦
            let none = none_above begin end (end x) a xs h.2 inside in
            rw (test_le (begin x) a at, test_lt a (end x) inside, none.0) (rw (test_lt a (end x) inside, add-zero) refl)
        | inr past ↦
            rw (test_le (begin x) a at, test_ge a (end x) past) (position_range begin end (end x) a (n + 1) xs h.2 d ∙ place_step end a x xs n (prefix_len (λ x. nat_le (begin x) a) xs) d past)
      ]
    ]

-- ---- the last of marks at or below an address

none_marked : {X : Type 0} (key : X → ℕ) (low a : ℕ) (xs : List X) → Ascend key low xs → a < low → prefix_len (λ x. nat_le (key x) a) xs ≡ 0
none_marked key low a [] h below = refl
none_marked key low a (x ∷ xs) h below = rw (test_gt (key x) a (omega (arith, h.0))) refl

abbrev pub said_by : {X : Type 0} → (X → Bool) → Bool → List X → ℕ → X → Bool
said_by says code xs k d = cond (nat_eq k 0) code (says (get_or xs (k - 1) d))

said_step : {X : Type 0} (says : X → Bool) (code : Bool) (x : X) (xs : List X) (k : ℕ) (d : X) → said_by says (says x) xs k d ≡ said_by says code (x ∷ xs) (1 + k) d
said_step says code x xs zero d = refl
said_step says code x xs (suc k) d =
    let e : 1 + suc k - 1 ≡ suc k = omega arith in
    let f : suc k - 1 ≡ k = omega arith in
    let t : nat_eq (suc k) 0 ≡ false = grind (arith, nat_tests) in
    let u : nat_eq (1 + suc k) 0 ≡ false = grind (arith, nat_tests) in
    rw (e, f, t, u) refl

pub marked_last : {X : Type 0} (key : X → ℕ) (says : X → Bool) (low a : ℕ) (code : Bool) (xs : List X) → Ascend key low xs → (d : X)
    → fold (λ b x. cond (nat_le (key x) a) (says x) b) code xs
    ≡ said_by says code xs (prefix_len (λ x. nat_le (key x) a) xs) d
marked_last key says low a code [] h d = refl
marked_last key says low a code (x ∷ xs) h d =
    elim (cases_lt a (key x)) [
      | inl above ↦ rw (test_gt (key x) a above) (marked_last key says (key x) a code xs h.1 d ∙ rw (none_marked key (key x) a xs h.1 above) refl)
      | inr at ↦ rw (test_le (key x) a at) (marked_last key says (key x) a (says x) xs h.1 d ∙ said_step says code x xs (prefix_len (λ x. nat_le (key x) a) xs) d)
    ]
