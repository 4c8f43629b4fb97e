-- The search of the rows that the second profile has besides: over ranges of halfwords as in `Search`, and where a test tells more of them.
use Rattle.std.proofs.Common.{◌≡◌, ℕ, zero, suc, ◌+◌, ◌*◌, ◌/◌, ◌%◌, ◌^◌, ◌<◌, ◌≤◌, Bool, true, false, not, ◌&&◌, ◌||◌, ◌==◌, bit_and, cond, Option, Some, None, List, [], ◌∷◌, refl, arith, subst}
use Rattle.thumb_isa.specs.declared.instr.Decoded.{Decoded}
use Rattle.thumb_isa.specs.Fields.{field}
use Rattle.thumb_isa.specs.Rows.{Row, fits_second, late_rows}
use Rattle.thumb_isa.specs.Laws.{late_of}
use Rattle.thumb_isa.proofs.Blocks.{all_from, all_from_at, both, is_above, fits_none, fits_all}
use Rattle.thumb_isa.proofs.Search.{stops_at, stops_in, stops_over, stops_at-in, stops_at-over, meaning_at, first_fit-at, row_place, place_of_pair, and_both, implied, skip_cases}

-- the n halfwords from low up have the meaning of the row that the lowest fits
pub late_like : (low n second : ℕ) → stops_in (row_place late_rows low) late_rows low n ≡ true
    → (first : ℕ) → low ≤ first → first < low + n → late_of first second ≡ meaning_at (row_place late_rows low) late_rows first second
unfolding late_of
late_like low n second h first above below =
    first_fit-at (row_place late_rows low) late_rows first second (stops_at-in (row_place late_rows low) late_rows low n second h first above below)

-- the rectangle of n first and m second halfwords has the meaning of the row that its lowest pair fits
pub late_pair : (low n low_2 m : ℕ) → stops_over (place_of_pair late_rows low low_2) late_rows low n low_2 m ≡ true
    → (first second : ℕ) → low ≤ first → first < low + n → low_2 ≤ second → second < low_2 + m
    → late_of first second ≡ meaning_at (place_of_pair late_rows low low_2) late_rows first second
unfolding late_of
late_pair low n low_2 m h first second a b a2 b2 =
    first_fit-at (place_of_pair late_rows low low_2) late_rows first second
    (stops_at-over low n low_2 m first second a b a2 b2 (place_of_pair late_rows low low_2) late_rows h)

-- The same for those of the n first halfwords that pass a test, and the second ones whose upper bits, from bit k up, are among those that
-- `each` tries.
module _ (one : ℕ → Bool) (low n k : ℕ) (each : (ℕ → Bool) → Bool) where
  abbrev none_first : Row → Bool
  none_first row = all_from (λ h. not (one h) || not (bit_and h row.mask == row.value)) n low

  abbrev all_first : Row → Bool
  all_first row = all_from (λ h. not (one h) || (bit_and h row.mask == row.value)) n low

  abbrev none_second : Option (ℕ × ℕ) → Bool
  none_second None = false
  none_second (Some p) = each (λ x. not (bit_and x (p.0 / 2 ^ k) == p.1 / 2 ^ k))

  abbrev all_second : Option (ℕ × ℕ) → Bool
  all_second None = true
  all_second (Some p) = is_above k p.0 p.1 && each (λ x. bit_and x (p.0 / 2 ^ k) == p.1 / 2 ^ k)

  abbrev skips : Row → Bool
  skips row = let seconds = none_second row.second in cond (none_first row) true seconds

  abbrev pub stops_when : ℕ → List Row → Bool
  stops_when i [] = true
  stops_when zero (row ∷ more) = all_first row && all_second row.second
  stops_when (suc i) (row ∷ more) = skips row && stops_when i more

  module _ (first second : ℕ) (passes : one first ≡ true) (above : low ≤ first) (below : first < low + n)
      (tried : (p : ℕ → Bool) → each p ≡ true → p (second / 2 ^ k) ≡ true) where
    none_first_at : (row : Row) → none_first row ≡ true → not (bit_and first row.mask == row.value) ≡ true
    none_first_at row h =
        implied (one first) _ (all_from_at (λ h. not (one h) || not (bit_and h row.mask == row.value)) n low h first above below) passes

    all_first_at : (row : Row) → all_first row ≡ true → (bit_and first row.mask == row.value) ≡ true
    all_first_at row h =
        implied (one first) _ (all_from_at (λ h. not (one h) || (bit_and h row.mask == row.value)) n low h first above below) passes

    none_second_at : (p : Option (ℕ × ℕ)) → none_second p ≡ true → not (fits_second p second) ≡ true
    none_second_at None h = cc
    none_second_at (Some p) h =
        fits_none k p.0 p.1 second second refl (tried (λ x. not (bit_and x (p.0 / 2 ^ k) == p.1 / 2 ^ k)) h)

    all_second_at : (p : Option (ℕ × ℕ)) → all_second p ≡ true → fits_second p second ≡ true
    all_second_at None h = refl
    all_second_at (Some p) h =
        let parts = both (is_above k p.0 p.1) _ h in
        let bits = both (p.0 % 2 ^ k == 0) (p.1 % 2 ^ k == 0) parts.0 in
        fits_all k p.0 p.1 second second refl bits.0 bits.1 (tried (λ x. bit_and x (p.0 / 2 ^ k) == p.1 / 2 ^ k) parts.1)

    stops_at-when : (i : ℕ) (rs : List Row) → stops_when i rs ≡ true → stops_at i rs first second ≡ true
    stops_at-when zero [] h = refl
    stops_at-when (suc i) [] h = refl
    stops_at-when zero (row ∷ more) h =
        let parts = both (all_first row) (all_second row.second) h in
        and_both _ _ (all_first_at row parts.0) (all_second_at row.second parts.1)
    stops_at-when (suc i) (row ∷ more) h =
        let parts = both (skips row) (stops_when i more) h in
        and_both _ _
        (skip_cases _ _ (bit_and first row.mask == row.value) (fits_second row.second second) parts.0 (none_first_at row) (none_second_at row.second))
        (stops_at-when i more parts.1)

    pub late_each : (i : ℕ) → stops_when i late_rows ≡ true → late_of first second ≡ meaning_at i late_rows first second
    unfolding late_of
    late_each i h = first_fit-at i late_rows first second (stops_at-when i late_rows h)

-- the m numbers from low up that pass a test
abbrev pub each_from : (ℕ → Bool) → ℕ → ℕ → (ℕ → Bool) → Bool
each_from test low m p = all_from (λ x. not (test x) || p x) m low

pub each_from_at : (test : ℕ → Bool) (low m x : ℕ) → test x ≡ true → low ≤ x → x < low + m → (p : ℕ → Bool) → each_from test low m p ≡ true → p x ≡ true
each_from_at test low m x passes above below p h = implied (test x) _ (all_from_at (λ x. not (test x) || p x) m low h x above below) passes

-- the halfwords whose first and third digit are ones, and whose second and fourth pass a test each
abbrev pub each_digits : (ℕ → Bool) → (ℕ → Bool) → (ℕ → Bool) → Bool
each_digits two four p = each_from two 0 16 (λ d. each_from four 0 16 (λ m. p (0xf0f0 + d * 2 ^ 8 + m)))

pub each_digits_at : (two four : ℕ → Bool) (s : ℕ) → 0xf000 ≤ s → s < 0x10000 → field s 4 4 ≡ 15 → two (field s 8 4) ≡ true → four (field s 0 4) ≡ true
    → (p : ℕ → Bool) → each_digits two four p ≡ true → p (s / 2 ^ 0) ≡ true
each_digits_at two four s above below third d m p h =
    let whole : 0xf0f0 + field s 8 4 * 2 ^ 8 + field s 0 4 ≡ s / 2 ^ 0 = omega arith in
    let later = each_from_at two 0 16 (field s 8 4) d (omega arith) (omega arith) (λ d. each_from four 0 16 (λ m. p (0xf0f0 + d * 2 ^ 8 + m))) h in
    let last = each_from_at four 0 16 (field s 0 4) m (omega arith) (omega arith) (λ m. p (0xf0f0 + field s 8 4 * 2 ^ 8 + m)) later in
    subst (λ x. p x ≡ true) whole last

-- those of the n first halfwords that pass one test, and the second ones whose upper bits, from bit k up, pass another and are among the
-- m numbers from low_2 up
pub late_when : (one two : ℕ → Bool) (low n k low_2 m first second : ℕ) → one first ≡ true → low ≤ first → first < low + n
    → two (second / 2 ^ k) ≡ true → low_2 ≤ second / 2 ^ k → second / 2 ^ k < low_2 + m
    → (i : ℕ) → stops_when one low n k (each_from two low_2 m) i late_rows ≡ true → late_of first second ≡ meaning_at i late_rows first second
late_when one two low n k low_2 m first second passes above below passes_2 above_2 below_2 =
    late_each one low n k (each_from two low_2 m) first second passes above below (each_from_at two low_2 m (second / 2 ^ k) passes_2 above_2 below_2)
