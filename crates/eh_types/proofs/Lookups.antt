-- What halving finds among rows in rising order.
use Rattle.std.proofs.Common.{◌≡◌, ℕ, zero, suc, ◌+◌, ◌<◌, ◌≤◌, Bool, true, false, nat_eq, nat_lt, List, [], ◌∷◌, length, get_or, Some, None, option_map, refl, sym, ◌∙◌, inl, inr, arith}
use Rattle.std.proofs.lemmas.Bool.Decides.{nat_tests}
use Rattle.std.proofs.lemmas.Bool.{cases_eq, cases_lt, false≢true}
use Rattle.std.specs.List.{prefix_len}
use Rattle.std.specs.List.Sorted.{IsPartitionPoint, IsNonDecreasingBy}
use Rattle.std.proofs.lemmas.List.Sums.{prefix_len_passes, prefix_len_stops, prefix_len-le-length}
use Rattle.elf_image.specs.Segments.{Segment}
use Rattle.eh_types.specs.declared.kind.TypeKind.TheVariants.{Other}
use Rattle.eh_types.specs.Graph.{Row, Rise, row_of}
use Rattle.eh_types.specs.Types.{row_in, rows_in}

-- the place where a test begins to fail is the length of the front that passes
pub partition_is : {X : Type 0} (p : X → Bool) (xs : List X) (i : ℕ) (d : X) → i ≤ length xs → IsPartitionPoint (λ y. p y ≡ true) (λ y. p y ≡ false) xs i → i ≡ prefix_len p xs
partition_is p xs i d fits h =
    let most = prefix_len-le-length p xs in
    elim (cases_lt i (prefix_len p xs)) [
      | inl below ↦ absurd (false≢true (sym (h.1 i d (omega arith) (omega arith)) ∙ prefix_len_passes p xs i d below))
      | inr above ↦ elim (cases_lt (prefix_len p xs) i) [
        | inl past ↦ absurd (false≢true (sym (prefix_len_stops p xs d (omega arith)) ∙ h.0 (prefix_len p xs) d (omega arith) past))
        | inr same ↦ omega arith
      ]
    ]

all_above : (low : ℕ) (xs : List Row) → Rise low xs → (j : ℕ) (d : Row) → j < length xs → low ≤ (get_or xs j d).at
all_above low [] a j d h = absurd (omega arith)
all_above low (x ∷ xs) a zero d h = a.0
all_above low (x ∷ xs) a (suc j) d h = omega (arith, a.0, all_above (x.at + 1) xs a.1 j d (omega arith))

-- rows that rise don't fall
pub rows_rise : (low : ℕ) (xs : List Row) → Rise low xs → IsNonDecreasingBy (λ (r : Row). r.at) xs
rows_rise low [] a i j d e h = absurd (omega arith)
rows_rise low (x ∷ xs) a zero zero d e h = omega arith
rows_rise low (x ∷ xs) a zero (suc j) d e h = omega (arith, all_above (x.at + 1) xs a.1 j d (omega arith))
rows_rise low (x ∷ xs) a (suc i) zero d e h = absurd (omega arith)
rows_rise low (x ∷ xs) a (suc i) (suc j) d e h = rows_rise (x.at + 1) xs a.1 i j d (omega arith) (omega arith)

test_lt : (x y : ℕ) → x < y → nat_lt x y ≡ true
test_lt x y h = grind (arith, nat_tests)

test_ge : (x y : ℕ) → y ≤ x → nat_lt x y ≡ false
test_ge x y h = grind (arith, nat_tests)

test_ne : (x y : ℕ) → y < x → nat_eq x y ≡ false
test_ne x y h = grind (arith, nat_tests)

test_ne_below : (x y : ℕ) → x < y → nat_eq x y ≡ false
test_ne_below x y h = grind (arith, nat_tests)

test_eq : (x y : ℕ) → x ≡ y → nat_eq x y ≡ true
test_eq x y h = grind (arith, nat_tests)

test_not : (x y : ℕ) → (x ≡ y → ⊥) → nat_eq x y ≡ false
test_not x y h = grind (arith, nat_tests)

pub no_row : Row
no_row = record { at = 0; kind = Other; name = []; bases = [] }

-- no row that rises from above an address is at it
pub none_below : (low ty : ℕ) (g : List Row) → Rise low g → ty < low → row_of g ty ≡ None
unfolding row_of
none_below low ty [] h below = refl
none_below low ty (r ∷ g) h below = rw (test_ne r.at ty (omega (arith, h.0))) (none_below (r.at + 1) ty g h.1 (omega (arith, h.0)))

abbrev pub is_below : ℕ → Row → Bool
is_below ty r = nat_lt r.at ty

pub row_past : (low ty : ℕ) (g : List Row) → Rise low g → prefix_len (is_below ty) g ≡ length g → row_of g ty ≡ None
unfolding row_of
row_past low ty [] h e = refl
row_past low ty (r ∷ g) h e =
    elim (cases_lt r.at ty) [
      | inl below ↦ rw (test_ne_below r.at ty below) (row_past (r.at + 1) ty g h.1 (let f = rw (test_lt r.at ty below) at e in omega (arith, f)))
      | inr above ↦ absurd (let f = rw (test_ge r.at ty above) at e in omega (arith, f))
    ]

pub row_there : (low ty : ℕ) (g : List Row) (d : Row) → Rise low g → prefix_len (is_below ty) g < length g → (get_or g (prefix_len (is_below ty) g) d).at ≡ ty
    → row_of g ty ≡ Some (get_or g (prefix_len (is_below ty) g) d)
unfolding row_of
row_there low ty [] d h inside e = absurd (omega arith)
row_there low ty (r ∷ g) d h inside e =
    elim (cases_lt r.at ty) [
      | inl below ↦
          let more : 1 + prefix_len (is_below ty) g ≡ suc (prefix_len (is_below ty) g) = omega arith in
          let within = rw (test_lt r.at ty below) at inside in
          let here = rw (test_lt r.at ty below, more) at e in
          rw (test_ne_below r.at ty below, test_lt r.at ty below, more) (row_there (r.at + 1) ty g d h.1 (omega (arith, within)) here)
      | inr above ↦
          let here = rw (test_ge r.at ty above) at e in
          rw (test_eq r.at ty here, test_ge r.at ty above) refl
    ]

pub row_other : (low ty : ℕ) (g : List Row) (d : Row) → Rise low g → prefix_len (is_below ty) g < length g → ((get_or g (prefix_len (is_below ty) g) d).at ≡ ty → ⊥)
    → row_of g ty ≡ None
unfolding row_of
row_other low ty [] d h inside e = refl
row_other low ty (r ∷ g) d h inside e =
    elim (cases_lt r.at ty) [
      | inl below ↦
          let more : 1 + prefix_len (is_below ty) g ≡ suc (prefix_len (is_below ty) g) = omega arith in
          let within = rw (test_lt r.at ty below) at inside in
          let other = rw (test_lt r.at ty below, more) at e in
          rw (test_ne_below r.at ty below) (row_other (r.at + 1) ty g d h.1 (omega (arith, within)) other)
      | inr above ↦
          let other : r.at ≡ ty → ⊥ = rw (test_ge r.at ty above) at e in
          rw (test_not r.at ty other) (none_below (r.at + 1) ty g h.1 (omega (arith, above, other)))
    ]

-- what the row at the place of an address tells
pub found_there : (g : List Row) (ty k : ℕ) (d : Row) → Rise 0 g → k ≡ prefix_len (is_below ty) g → (k ≡ length g → ⊥) → (get_or g k d).at ≡ ty → row_of g ty ≡ Some (get_or g k d)
found_there g ty k d h e short here =
    let most = prefix_len-le-length (is_below ty) g in
    let at = rw e at here in
    rw e (row_there 0 ty g d h (omega (arith, most, short, e)) at)

pub found_other : (g : List Row) (ty k : ℕ) (d : Row) → Rise 0 g → k ≡ prefix_len (is_below ty) g → (k ≡ length g → ⊥) → ((get_or g k d).at ≡ ty → ⊥) → row_of g ty ≡ None
found_other g ty k d h e short other =
    let most = prefix_len-le-length (is_below ty) g in
    let at = rw e at other in
    row_other 0 ty g d h (omega (arith, most, short, e)) at

pub found_past : (g : List Row) (ty k : ℕ) → Rise 0 g → k ≡ prefix_len (is_below ty) g → k ≡ length g → row_of g ty ≡ None
found_past g ty k h e end = row_past 0 ty g h (sym e ∙ end)

pub ruleset row_lookups = (found_there, found_other, found_past)

-- ---- rows that are kept without their bases stand where those with them do

pub kept_rise : (segments : List Segment) (low : ℕ) (rows : List Row) → Rise low (rows_in segments rows) → Rise low rows
kept_rise segments low [] h = tt
kept_rise segments low (r ∷ rows) h = (h.0, kept_rise segments (r.at + 1) rows h.1)

pub row_kept : (segments : List Segment) (rows : List Row) (ty : ℕ) → row_of (rows_in segments rows) ty ≡ option_map (row_in segments) (row_of rows ty)
unfolding row_of
row_kept segments [] ty = refl
row_kept segments (r ∷ rows) ty =
    elim (cases_eq r.at ty) [
      | inl here ↦ rw (test_eq r.at ty here) refl
      | inr other ↦ rw (test_not r.at ty other) (row_kept segments rows ty)
    ]
