-- The search of a list of rows, by a test of every halfword of a range.
use Rattle.std.proofs.Common.{◌≡◌, ℕ, zero, suc, ◌+◌, ◌<◌, ◌≤◌, Bool, true, false, not, ◌&&◌, ◌||◌, ◌==◌, bit_and, cond, Option, Some, None, List, [], ◌∷◌, refl, arith, ◌∙◌, ap}
use Rattle.thumb_isa.specs.declared.instr.Decoded.{Decoded}
use Rattle.thumb_isa.specs.declared.instr.Decoded.TheVariants.{Is, Undefined, Unpredictable, NotInProfile}
use Rattle.thumb_isa.specs.Rows.{Row, fits_row, fits_second, rows, first_fit, decode_result}
use Rattle.thumb_isa.proofs.Blocks.{all_from, all_from_at, both, none_in, none_in_at, all_in, all_in_at}

-- the search stops at this place of the list, or runs past its end
abbrev pub stops_at : ℕ → List Row → ℕ → ℕ → Bool
stops_at i [] first second = true
stops_at zero (row ∷ more) first second = fits_row row first second
stops_at (suc i) (row ∷ more) first second = not (fits_row row first second) && stops_at i more first second

abbrev pub meaning_at : ℕ → List Row → ℕ → ℕ → Decoded
meaning_at i [] first second = Undefined
meaning_at zero (row ∷ more) first second = row.means first second
meaning_at (suc i) (row ∷ more) first second = meaning_at i more first second

pub cond_true : {A : Type 0} (b : Bool) (x y : A) → b ≡ true → cond b x y ≡ x
cond_true b x y h = rw h

pub cond_not : {A : Type 0} (b : Bool) (x y : A) → not b ≡ true → cond b x y ≡ y
cond_not true x y h = cc
cond_not false x y h = refl

pub first_fit-at : (i : ℕ) (rs : List Row) (first second : ℕ) → stops_at i rs first second ≡ true → first_fit rs first second ≡ meaning_at i rs first second
first_fit-at zero [] first second h = refl
first_fit-at (suc i) [] first second h = refl
first_fit-at zero (row ∷ more) first second h = cond_true (fits_row row first second) _ _ h
first_fit-at (suc i) (row ∷ more) first second h =
    let two = both (not (fits_row row first second)) (stops_at i more first second) h in
    cond_not (fits_row row first second) _ _ two.0 ∙ first_fit-at i more first second two.1

pub implied : (a b : Bool) → (not a || b) ≡ true → a ≡ true → b ≡ true
implied true b h e = h
implied false b h e = cc

-- the search stops at this place of the list over the n halfwords from low up: each row before it fits none of them, and the row there
-- asks for one halfword alone and fits them all
abbrev pub is_single : Option (ℕ × ℕ) → Bool
is_single None = true
is_single (Some pattern) = false

abbrev pub stops_in : ℕ → List Row → ℕ → ℕ → Bool
stops_in i [] low n = true
stops_in zero (row ∷ more) low n = is_single row.second && all_in row.mask row.value low n
stops_in (suc i) (row ∷ more) low n = none_in row.mask row.value low n && stops_in i more low n

pub and_both : (a b : Bool) → a ≡ true → b ≡ true → (a && b) ≡ true
and_both true b p q = q
and_both false b p q = p

single_fits : (second : Option (ℕ × ℕ)) (s : ℕ) → is_single second ≡ true → fits_second second s ≡ true
single_fits None s h = refl
single_fits (Some pattern) s h = cc

no_fit : (a b : Bool) → not a ≡ true → not (a && b) ≡ true
no_fit true b h = cc
no_fit false b h = refl

pub stops_at-in : (i : ℕ) (rs : List Row) (low n second : ℕ) → stops_in i rs low n ≡ true → (first : ℕ) → low ≤ first → first < low + n → stops_at i rs first second ≡ true
stops_at-in zero [] low n second h first above below = refl
stops_at-in (suc i) [] low n second h first above below = refl
stops_at-in zero (row ∷ more) low n second h first above below =
    let two = both (is_single row.second) (all_in row.mask row.value low n) h in
    and_both _ _ (all_in_at row.mask row.value low n two.1 first above below) (single_fits row.second second two.0)
stops_at-in (suc i) (row ∷ more) low n second h first above below =
    let two = both (none_in row.mask row.value low n) (stops_in i more low n) h in
    and_both _ _ (no_fit (bit_and first row.mask == row.value) (fits_second row.second second) (none_in_at row.mask row.value low n two.0 first above below))
    (stops_at-in i more low n second two.1 first above below)

-- the n halfwords from low up have the meaning of the row at this place
pub decoded_at : (i low n second : ℕ) → stops_in i rows low n ≡ true
    → (first : ℕ) → low ≤ first → first < low + n → decode_result first second ≡ meaning_at i rows first second
unfolding decode_result
decoded_at i low n second h first above below =
    first_fit-at i rows first second (stops_at-in i rows low n second h first above below)

-- The same over a rectangle: the n first halfwords from low up, and the m second ones from low_2 up. Each row before the
-- place fits none of the first or none of the second, and the row at the place fits all.
abbrev pub none_second : Option (ℕ × ℕ) → ℕ → ℕ → Bool
none_second None low m = false
none_second (Some pattern) low m = none_in pattern.0 pattern.1 low m

abbrev pub all_second : Option (ℕ × ℕ) → ℕ → ℕ → Bool
all_second None low m = true
all_second (Some pattern) low m = all_in pattern.0 pattern.1 low m

none_second_at : (p : Option (ℕ × ℕ)) (low m : ℕ) → none_second p low m ≡ true → (s : ℕ) → low ≤ s → s < low + m → not (fits_second p s) ≡ true
none_second_at None low m h s above below = cc
none_second_at (Some p) low m h s above below = none_in_at p.0 p.1 low m h s above below

all_second_at : (p : Option (ℕ × ℕ)) (low m : ℕ) → all_second p low m ≡ true → (s : ℕ) → low ≤ s → s < low + m → fits_second p s ≡ true
all_second_at None low m h s above below = refl
all_second_at (Some p) low m h s above below = all_in_at p.0 p.1 low m h s above below

abbrev pub skips_all : Row → ℕ → ℕ → ℕ → ℕ → Bool
skips_all row low n low_2 m =
    let seconds = none_second row.second low_2 m in
    cond (none_in row.mask row.value low n) true seconds

abbrev pub stops_over : ℕ → List Row → ℕ → ℕ → ℕ → ℕ → Bool
stops_over i [] low n low_2 m = true
stops_over zero (row ∷ more) low n low_2 m = all_in row.mask row.value low n && all_second row.second low_2 m
stops_over (suc i) (row ∷ more) low n low_2 m =
    skips_all row low n low_2 m && stops_over i more low n low_2 m

pub skip_cases : (a b p q : Bool) → cond a true b ≡ true → (a ≡ true → not p ≡ true) → (b ≡ true → not q ≡ true) → not (p && q) ≡ true
skip_cases true b false q h f g = refl
skip_cases true b true q h f g = let e : false ≡ true = f refl in cc
skip_cases false b false q h f g = refl
skip_cases false b true q h f g = g h

module _ (low n low_2 m first second : ℕ) (above : low ≤ first) (below : first < low + n) (above_2 : low_2 ≤ second) (below_2 : second < low_2 + m) where
  pub stops_at-over : (i : ℕ) (rs : List Row) → stops_over i rs low n low_2 m ≡ true → stops_at i rs first second ≡ true
  stops_at-over zero [] h = refl
  stops_at-over (suc i) [] h = refl
  stops_at-over zero (row ∷ more) h =
      let two = both (all_in row.mask row.value low n) (all_second row.second low_2 m) h in
      and_both _ _ (all_in_at row.mask row.value low n two.0 first above below) (all_second_at row.second low_2 m two.1 second above_2 below_2)
  stops_at-over (suc i) (row ∷ more) h =
      let two = both (skips_all row low n low_2 m) (stops_over i more low n low_2 m) h in
      and_both _ _
      (skip_cases _ _ (bit_and first row.mask == row.value) (fits_second row.second second) two.0
      (λ e. none_in_at row.mask row.value low n e first above below)
      (λ e. none_second_at row.second low_2 m e second above_2 below_2))
      (stops_at-over i more two.1)

pub decoded_over : (i low n low_2 m : ℕ) → stops_over i rows low n low_2 m ≡ true
    → (first second : ℕ) → low ≤ first → first < low + n → low_2 ≤ second → second < low_2 + m
    → decode_result first second ≡ meaning_at i rows first second
unfolding decode_result
decoded_over i low n low_2 m h first second a b a2 b2 =
    first_fit-at i rows first second (stops_at-over low n low_2 m first second a b a2 b2 i rows h)

-- The rows at the places marked true. No row at another place has a pattern for the first halfword that fits.
abbrev pub kept : List Bool → List Row → List Row
kept [] rs = []
kept (k ∷ ks) [] = []
kept (true ∷ ks) (row ∷ more) = row ∷ kept ks more
kept (false ∷ ks) (row ∷ more) = kept ks more

abbrev pub drops_no_fit : List Bool → List Row → ℕ → Bool
drops_no_fit [] [] first = true
drops_no_fit [] (row ∷ more) first = false
drops_no_fit (k ∷ ks) [] first = true
drops_no_fit (true ∷ ks) (row ∷ more) first = drops_no_fit ks more first
drops_no_fit (false ∷ ks) (row ∷ more) first = not (bit_and first row.mask == row.value) && drops_no_fit ks more first

first_fit-past : (a b : Bool) (x y z : Decoded) → not a ≡ true → y ≡ z → cond (a && b) x y ≡ z
first_fit-past true b x y z h e = cc
first_fit-past false b x y z h e = e

pub first_fit-kept : (ks : List Bool) (rs : List Row) (first second : ℕ) → drops_no_fit ks rs first ≡ true → first_fit rs first second ≡ first_fit (kept ks rs) first second
first_fit-kept [] [] first second h = refl
first_fit-kept [] (row ∷ more) first second h = cc
first_fit-kept (k ∷ ks) [] first second h = refl
first_fit-kept (true ∷ ks) (row ∷ more) first second h =
    ap (cond (fits_row row first second) (row.means first second)) (first_fit-kept ks more first second h)
first_fit-kept (false ∷ ks) (row ∷ more) first second h =
    let two = both (not (bit_and first row.mask == row.value)) (drops_no_fit ks more first) h in
    first_fit-past _ _ _ _ _ two.0 (first_fit-kept ks more first second two.1)

-- no row at another place fits one of the n halfwords from low up
abbrev pub drops_in : List Bool → List Row → ℕ → ℕ → Bool
drops_in [] [] low n = true
drops_in [] (row ∷ more) low n = false
drops_in (k ∷ ks) [] low n = true
drops_in (true ∷ ks) (row ∷ more) low n = drops_in ks more low n
drops_in (false ∷ ks) (row ∷ more) low n = none_in row.mask row.value low n && drops_in ks more low n

pub drops_in_at : (ks : List Bool) (rs : List Row) (low n : ℕ) → drops_in ks rs low n ≡ true → (first : ℕ) → low ≤ first → first < low + n → drops_no_fit ks rs first ≡ true
drops_in_at [] [] low n h first above below = refl
drops_in_at [] (row ∷ more) low n h first above below = cc
drops_in_at (k ∷ ks) [] low n h first above below = refl
drops_in_at (true ∷ ks) (row ∷ more) low n h first above below = drops_in_at ks more low n h first above below
drops_in_at (false ∷ ks) (row ∷ more) low n h first above below =
    let two = both (none_in row.mask row.value low n) (drops_in ks more low n) h in
    and_both _ _ (none_in_at row.mask row.value low n two.0 first above below) (drops_in_at ks more low n two.1 first above below)

-- the n halfwords from low up need only these rows
pub decoded_by : (ks : List Bool) (low n second : ℕ) → drops_in ks rows low n ≡ true
    → (first : ℕ) → low ≤ first → first < low + n → decode_result first second ≡ first_fit (kept ks rows) first second
unfolding decode_result
decoded_by ks low n second h first above below =
    first_fit-kept ks rows first second (drops_in_at ks rows low n h first above below)

-- the rows that may fit one of the n halfwords from low up
abbrev pub near : List Row → ℕ → ℕ → List Bool
near [] low n = []
near (row ∷ more) low n = not (none_in row.mask row.value low n) ∷ near more low n

near_step : (b : Bool) (ks : List Bool) (row : Row) (more : List Row) (low n : ℕ) → none_in row.mask row.value low n ≡ b → drops_in ks more low n ≡ true → drops_in (not b ∷ ks) (row ∷ more) low n ≡ true
near_step true ks row more low n e h = and_both _ _ e h
near_step false ks row more low n e h = h

near_drops : (rs : List Row) (low n : ℕ) → drops_in (near rs low n) rs low n ≡ true
near_drops [] low n = refl
near_drops (row ∷ more) low n = near_step (none_in row.mask row.value low n) (near more low n) row more low n refl (near_drops more low n)

-- the n halfwords from low up need only the rows that may fit one of them
pub decoded_near : (low n second : ℕ) (first : ℕ) → low ≤ first → first < low + n → decode_result first second ≡ first_fit (kept (near rows low n) rows) first second
decoded_near low n second = decoded_by (near rows low n) low n second (near_drops rows low n)

-- the place of the row that this halfword fits
abbrev pub row_place : List Row → ℕ → ℕ
row_place [] first = 0
row_place (row ∷ more) first = let later = suc (row_place more first) in cond (bit_and first row.mask == row.value) 0 later

-- the rows that may fit one of the n halfwords from low up
abbrev pub near_rows : ℕ → ℕ → List Row
near_rows low n = kept (near rows low n) rows

-- the place among these of the row that this halfword fits
abbrev pub place_near : ℕ → ℕ → ℕ → ℕ
place_near like low n = row_place (near_rows low n) like

-- the search of these rows stops at this place for a halfword that passes the test `when`
abbrev pub stops_where : (ℕ → Bool) → ℕ → List Row → ℕ → ℕ → Bool
stops_where when i rs second first = not (when first) || stops_at i rs first second

first_fit-where : (when : ℕ → Bool) (i : ℕ) (rs : List Row) (low n second : ℕ) → all_from (stops_where when i rs second) n low ≡ true
    → (first : ℕ) → low ≤ first → first < low + n → when first ≡ true → first_fit rs first second ≡ meaning_at i rs first second
first_fit-where when i rs low n second h first above below w =
    first_fit-at i rs first second (implied (when first) _ (all_from_at (stops_where when i rs second) n low h first above below) w)

-- of the n halfwords from low up, those that pass the test `when` have the meaning of the row that the halfword `like` fits
pub decoded_where : (when : ℕ → Bool) (like low n second : ℕ) → all_from (stops_where when (place_near like low n) (near_rows low n) second) n low ≡ true
    → (first : ℕ) → low ≤ first → first < low + n → when first ≡ true → decode_result first second ≡ meaning_at (place_near like low n) (near_rows low n) first second
decoded_where when like low n second h first above below w =
    decoded_near low n second first above below ∙ first_fit-where when (place_near like low n) (near_rows low n) low n second h first above below w

-- the n halfwords from low up have the meaning of the row that the lowest fits
pub decoded_like : (low n second : ℕ) → stops_in (row_place rows low) rows low n ≡ true
    → (first : ℕ) → low ≤ first → first < low + n → decode_result first second ≡ meaning_at (row_place rows low) rows first second
decoded_like low n second = decoded_at (row_place rows low) low n second

-- the place of the row that this pair fits
abbrev pub place_of_pair : List Row → ℕ → ℕ → ℕ
place_of_pair [] first second = 0
place_of_pair (row ∷ more) first second = let later = suc (place_of_pair more first second) in cond (fits_row row first second) 0 later

abbrev pub is_unpredictable : Decoded → Bool
is_unpredictable (Is i size) = false
is_unpredictable Undefined = false
is_unpredictable Unpredictable = true
is_unpredictable NotInProfile = false

from_test : (d : Decoded) → is_unpredictable d ≡ true → d ≡ Unpredictable
from_test (Is i size) h = cc
from_test Undefined h = cc
from_test Unpredictable h = refl
from_test NotInProfile h = cc

abbrev pub refused_where : (ℕ → Bool) → List Row → ℕ → ℕ → Bool
refused_where when rs second first = not (when first) || is_unpredictable (first_fit rs first second)

first_fit-refused : (when : ℕ → Bool) (rs : List Row) (low n second : ℕ) → all_from (refused_where when rs second) n low ≡ true
    → (first : ℕ) → low ≤ first → first < low + n → when first ≡ true → first_fit rs first second ≡ Unpredictable
first_fit-refused when rs low n second h first above below w =
    from_test (first_fit rs first second) (implied (when first) _ (all_from_at (refused_where when rs second) n low h first above below) w)

-- of the n halfwords from low up, those that pass the test `when` are unpredictable
pub unpredictable_where : (when : ℕ → Bool) (low n second : ℕ) → all_from (refused_where when (near_rows low n) second) n low ≡ true
    → (first : ℕ) → low ≤ first → first < low + n → when first ≡ true → decode_result first second ≡ Unpredictable
unpredictable_where when low n second h first above below w =
    decoded_near low n second first above below ∙ first_fit-refused when (near_rows low n) low n second h first above below w

-- the rectangle of n first and m second halfwords has the meaning of the row that its lowest pair fits
pub decoded_pair : (low n low_2 m : ℕ) → stops_over (place_of_pair rows low low_2) rows low n low_2 m ≡ true
    → (first second : ℕ) → low ≤ first → first < low + n → low_2 ≤ second → second < low_2 + m
    → decode_result first second ≡ meaning_at (place_of_pair rows low low_2) rows first second
decoded_pair low n low_2 m = decoded_over (place_of_pair rows low low_2) low n low_2 m
