-- What holds of every pair of halfwords: the size of its instruction, and where the second plays no part.
use Rattle.std.proofs.Common.{◌≡◌, ℕ, ◌<◌, ◌≤◌, Bool, true, false, not, ◌||◌, ◌==◌, bit_and, nat_le, cond, List, [], ◌∷◌, map, is_none, is_some, refl, sym, ◌∙◌, arith, inl, inr}
use Rattle.std.specs.List.{list_all}
use Rattle.std.proofs.lemmas.Bool.{cases_lt, lt-leb, le-leb, leb-true, ne_eqb, eqb-true, and_from}
use Rattle.std.proofs.lemmas.Nat.{and_le_l}
use Rattle.thumb_isa.specs.declared.instr.Decoded.{Decoded}
use Rattle.thumb_isa.specs.declared.instr.Decoded.TheVariants.{Is, Undefined, Unpredictable, NotInProfile}
use Rattle.thumb_isa.specs.Range.{IsOfSize, size_of}
use Rattle.thumb_isa.specs.Rows.{Row, fits_row, rows, first_fit, decode_result}
use Rattle.thumb_isa.proofs.Blocks.{both}
use Rattle.thumb_isa.proofs.Search.{kept, drops_no_fit, first_fit-kept, decoded_by}

-- the rows of one halfword, and those of two
abbrev pub narrow_rows : List Row → List Bool
narrow_rows rs = map (λ row. is_none row.second) rs

abbrev pub wide_rows : List Row → List Bool
wide_rows rs = map (λ row. is_some row.second) rs

-- the first halfword of each row of two is 0xe800 or above
abbrev pub start_high : List Row → Bool
start_high rs = list_all (λ row. is_none row.second || nat_le 0xe800 row.value) rs

drop_cases : (b : Bool) (ks : List Bool) (row : Row) (more : List Row) (first : ℕ)
    → (b || nat_le 0xe800 row.value) ≡ true → first < 0xe800 → drops_no_fit ks more first ≡ true → drops_no_fit (b ∷ ks) (row ∷ more) first ≡ true
drop_cases true ks row more first h below later = later
drop_cases false ks row more first h below later =
    and_from _ _ (apart row.value (leb-true 0xe800 row.value h)) later
  where
    apart : (value : ℕ) → 0xe800 ≤ value → not (bit_and first row.mask == value) ≡ true
    apart value l = rw (ne_eqb (bit_and first row.mask) value (λ e. omega (arith, e, and_le_l first row.mask, below, l))) refl

pub drops-narrow : (rs : List Row) (first : ℕ) → start_high rs ≡ true → first < 0xe800 → drops_no_fit (narrow_rows rs) rs first ≡ true
drops-narrow [] first h below = refl
drops-narrow (row ∷ more) first h below =
    let two = both (is_none row.second || nat_le 0xe800 row.value) (start_high more) h in
    drop_cases (is_none row.second) (narrow_rows more) row more first two.0 below (drops-narrow more first two.1 below)

narrow_fit : (first second : ℕ) → first < 0xe800 → decode_result first second ≡ first_fit (kept (narrow_rows rows) rows) first second
unfolding decode_result
narrow_fit first second below = first_fit-kept (narrow_rows rows) rows first second (drops-narrow rows first refl below)

-- below 0xe800 the second halfword plays no part
pub alone : (first second other : ℕ) → first < 0xe800 → decode_result first second ≡ decode_result first other
alone first second other below = narrow_fit first second below ∙ sym (narrow_fit first other below)

-- the size in bytes, where it is an instruction
abbrev pub is_of_size : ℕ → Decoded → Bool
is_of_size n (Is i size) = size == n
is_of_size n Undefined = true
is_of_size n Unpredictable = true
is_of_size n NotInProfile = true

pub from_test : (n : ℕ) (d : Decoded) → is_of_size n d ≡ true → IsOfSize n d
from_test n (Is i size) h = eqb-true size n h
from_test n Undefined h = tt
from_test n Unpredictable h = tt
from_test n NotInProfile h = tt

either : (n : ℕ) (b : Bool) (x y : Decoded) → is_of_size n x ≡ true → is_of_size n y ≡ true → is_of_size n (cond b x y) ≡ true
either n true x y p q = p
either n false x y p q = q

pub first_fit-size : (n : ℕ) (rs : List Row) (first second : ℕ) → list_all (λ row. is_of_size n (row.means first second)) rs ≡ true → is_of_size n (first_fit rs first second) ≡ true
first_fit-size n [] first second h = refl
first_fit-size n (row ∷ more) first second h =
    let two = both (is_of_size n (row.means first second)) (list_all (λ row. is_of_size n (row.means first second)) more) h in
    either n (fits_row row first second) (row.means first second) (first_fit more first second) two.0 (first_fit-size n more first second two.1)

narrow_size : (first second : ℕ) → first < 0xe800 → IsOfSize 2 (decode_result first second)
narrow_size first second below =
    rw (narrow_fit first second below)
    (from_test 2 (first_fit (kept (narrow_rows rows) rows) first second) (first_fit-size 2 (kept (narrow_rows rows) rows) first second refl))

wide_size : (first second : ℕ) → 0xe800 ≤ first → first < 0x10000 → IsOfSize 4 (decode_result first second)
wide_size first second above below =
    rw (decoded_by (wide_rows rows) 0xe800 0x1800 second refl first above below)
    (from_test 4 (first_fit (kept (wide_rows rows) rows) first second) (first_fit-size 4 (kept (wide_rows rows) rows) first second refl))

-- an instruction has the size that its first halfword tells
pub sized : (first second : ℕ) → first < 0x10000 → IsOfSize (size_of first) (decode_result first second)
sized first second below = elim (cases_lt first 0xe800) [
  | inl low ↦ rw (lt-leb 0xe800 first low) (narrow_size first second low)
  | inr high ↦ rw (le-leb 0xe800 first high) (wide_size first second high below)
]
