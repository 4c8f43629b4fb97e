-- The second profile beside the first: what its own rows add is undefined in the first, and all else stays.
use Rattle.std.proofs.Common.{◌≡◌, ℕ, ◌+◌, ◌*◌, ◌/◌, ◌%◌, ◌^◌, ◌<◌, ◌≤◌, Bool, true, false, not, ◌&&◌, ◌||◌, ◌==◌, bit_and, nat_lt, cond, Option, Some, None, List, [], ◌∷◌, ◌++◌, pos, ◌⊎◌, inl, inr, refl, arith, sym, ◌∙◌, ap, subst}
use Rattle.std.specs.List.{list_all}
use Rattle.std.proofs.lemmas.Nat.{and_assoc, and_comm, and_le_r, and_mod}
use Rattle.std.proofs.lemmas.Bool.{cases_lt, lt-leb, le-leb, eqb-true, eq-eqb}
use Rattle.thumb_isa.specs.declared.instr.Instr.{Instr}
use Rattle.thumb_isa.specs.declared.instr.Instr.TheVariants.{Cbz, BWide, MovW, MovT, Div}
use Rattle.thumb_isa.specs.declared.instr.Decoded.{Decoded}
use Rattle.thumb_isa.specs.declared.instr.Decoded.TheVariants.{Is, Undefined, Unpredictable, NotInProfile}
use Rattle.thumb_isa.specs.declared.profile.Profile.{Profile}
use Rattle.thumb_isa.specs.declared.profile.Profile.TheVariants.{One, Two}
use Rattle.thumb_isa.specs.Fields.{field}
use Rattle.thumb_isa.specs.Range.{IsOfSize, size_of}
use Rattle.thumb_isa.specs.Rows.{Row, fits_row, fits_second, rows, late_rows, first_fit, decode_result, late_decode_result, decode_result_for}
use Rattle.thumb_isa.specs.Laws.{late_of, any_fits, is_late, IsLate, AddsToUndefined, LateAreUndefined, AddsFive, FirstHasNone}
use Rattle.thumb_isa.proofs.Blocks.{both}
use Rattle.thumb_isa.proofs.Search.{kept as kept_rows, first_fit-kept, drops_in_at}
use Rattle.thumb_isa.proofs.Table.{none_de00}
use Rattle.thumb_isa.proofs.LateTable.{none_bc}
use Rattle.thumb_isa.proofs.Laws.{alone, sized, narrow_rows, wide_rows, drops-narrow, from_test, first_fit-size}

-- two lists of rows, one behind the other
first_fit-append : (xs ys : List Row) (f s : ℕ) → first_fit (xs ++ ys) f s ≡ cond (any_fits xs f s) (first_fit xs f s) (first_fit ys f s)
first_fit-append [] ys f s = refl
first_fit-append (row ∷ more) ys f s =
    go (fits_row row f s) (row.means f s) (first_fit (more ++ ys) f s) (any_fits more f s) (first_fit more f s) (first_fit ys f s) (first_fit-append more ys f s)
  where
    go : (b : Bool) (x y : Decoded) (c : Bool) (z w : Decoded) → y ≡ cond c z w → cond b x y ≡ cond (b || c) (cond b x z) w
    go true x y c z w h = refl
    go false x y c z w h = h

none_fits : (xs : List Row) (f s : ℕ) → any_fits xs f s ≡ false → first_fit xs f s ≡ Undefined
none_fits [] f s h = refl
none_fits (row ∷ more) f s h = go (fits_row row f s) (row.means f s) (any_fits more f s) (first_fit more f s) h (none_fits more f s)
  where
    go : (b : Bool) (x : Decoded) (c : Bool) (y : Decoded) → (b || c) ≡ false → (c ≡ false → y ≡ Undefined) → cond b x y ≡ Undefined
    go true x c y h later = cc
    go false x c y h later = later h

-- two patterns ask for different values of some bit
abbrev differ : ℕ → ℕ → ℕ → ℕ → Bool
differ mask value mask_2 value_2 = not (bit_and value mask_2 == bit_and value_2 mask)

abbrev differ_second : Option (ℕ × ℕ) → Option (ℕ × ℕ) → Bool
differ_second None q = false
differ_second (Some p) None = false
differ_second (Some p) (Some q) = differ p.0 p.1 q.0 q.1

abbrev are_apart : Row → Row → Bool
are_apart row other = let seconds = differ_second row.second other.second in cond (differ row.mask row.value other.mask other.value) true seconds

contrary : (b : Bool) → b ≡ true → not b ≡ true → ⊥
contrary true e h = cc
contrary false e h = cc

false_from : (b : Bool) → (b ≡ true → ⊥) → b ≡ false
false_from true h = absurd (h refl)
false_from false h = refl

cond_true : {A : Type 0} (b : Bool) (x y : A) → b ≡ true → cond b x y ≡ x
cond_true b x y h = rw h

cond_false : {A : Type 0} (b : Bool) (x y : A) → b ≡ false → cond b x y ≡ y
cond_false b x y h = rw h

differ_apart : (h mask value mask_2 value_2 : ℕ) → differ mask value mask_2 value_2 ≡ true → (bit_and h mask == value) ≡ true
    → (bit_and h mask_2 == value_2) ≡ true → ⊥
differ_apart h mask value mask_2 value_2 d e f =
    let one = eqb-true (bit_and h mask) value e in
    let two = eqb-true (bit_and h mask_2) value_2 f in
    let same : bit_and value mask_2 ≡ bit_and value_2 mask =
    ap (λ n. bit_and n mask_2) (sym one) ∙ and_assoc mask_2 h mask ∙ ap (bit_and h) (and_comm mask mask_2) ∙ sym (and_assoc mask h mask_2) ∙ ap (λ n. bit_and n mask) two in
    contrary (bit_and value mask_2 == bit_and value_2 mask) (eq-eqb _ _ same) d

second_apart : (p q : Option (ℕ × ℕ)) (s : ℕ) → differ_second p q ≡ true → fits_second p s ≡ true → fits_second q s ≡ true → ⊥
second_apart None q s d e f = cc
second_apart (Some p) None s d e f = cc
second_apart (Some p) (Some q) s d e f = differ_apart s p.0 p.1 q.0 q.1 d e f

cond_either : (a b : Bool) → cond a true b ≡ true → (a ≡ true) ⊎ (b ≡ true)
cond_either true b h = inl refl
cond_either false b h = inr h

fits_apart : (row other : Row) (f s : ℕ) → are_apart row other ≡ true → fits_row row f s ≡ true → fits_row other f s ≡ false
fits_apart row other f s a t = false_from (fits_row other f s) (λ u. go (both _ _ t) (both _ _ u) (cond_either (differ row.mask row.value other.mask other.value) (differ_second row.second other.second) a))
  where
    go : ((bit_and f row.mask == row.value) ≡ true) × (fits_second row.second s ≡ true)
        → ((bit_and f other.mask == other.value) ≡ true) × (fits_second other.second s ≡ true)
        → (differ row.mask row.value other.mask other.value ≡ true) ⊎ (differ_second row.second other.second ≡ true) → ⊥
    go p q (inl d) = differ_apart f row.mask row.value other.mask other.value d p.0 q.0
    go p q (inr d) = second_apart row.second other.second s d p.1 q.1

none_beside : (row : Row) (ys : List Row) (f s : ℕ) → list_all (are_apart row) ys ≡ true → fits_row row f s ≡ true → first_fit ys f s ≡ Undefined
none_beside row [] f s a t = refl
none_beside row (other ∷ more) f s a t =
    let two = both (are_apart row other) (list_all (are_apart row) more) a in
    cond_false (fits_row other f s) _ _ (fits_apart row other f s two.0 t) ∙ none_beside row more f s two.1 t

apart_from : (xs ys : List Row) (f s : ℕ) → list_all (λ row. list_all (are_apart row) ys) xs ≡ true → any_fits xs f s ≡ true
    → first_fit ys f s ≡ Undefined
apart_from [] ys f s a t = cc
apart_from (row ∷ more) ys f s a t =
    let two = both (list_all (are_apart row) ys) (list_all (λ row. list_all (are_apart row) ys) more) a in
    go (fits_row row f s) t (none_beside row ys f s two.0) (apart_from more ys f s two.1)
  where
    go : (b : Bool) → (b || any_fits more f s) ≡ true → (b ≡ true → first_fit ys f s ≡ Undefined)
        → (any_fits more f s ≡ true → first_fit ys f s ≡ Undefined) → first_fit ys f s ≡ Undefined
    go true h here later = here refl
    go false h here later = later h

pub late_are_undefined : LateAreUndefined
unfolding decode_result
late_are_undefined f s h = apart_from late_rows rows f s refl h

late_is : (f s : ℕ) → late_decode_result f s ≡ cond (any_fits late_rows f s) (late_of f s) (decode_result f s)
unfolding late_decode_result late_of decode_result
late_is f s = first_fit-append late_rows rows f s

late_none : (f s : ℕ) → any_fits late_rows f s ≡ false → late_of f s ≡ Undefined
unfolding late_of
late_none f s h = none_fits late_rows f s h

pub adds_to_undefined : AddsToUndefined
adds_to_undefined f s = go (any_fits late_rows f s) refl
  where
    go : (b : Bool) → any_fits late_rows f s ≡ b → (late_decode_result f s ≡ decode_result f s) ⊎ (decode_result f s ≡ Undefined)
    go true h = inr (late_are_undefined f s h)
    go false h = inl (late_is f s ∙ cond_false _ _ _ h)

-- where the first profile leaves a pair undefined, the second profile's own rows tell what it means
pub added : (f s : ℕ) → decode_result f s ≡ Undefined → late_decode_result f s ≡ late_of f s
added f s e = go (any_fits late_rows f s) refl
  where
    go : (b : Bool) → any_fits late_rows f s ≡ b → late_decode_result f s ≡ late_of f s
    go true h = late_is f s ∙ cond_true _ _ _ h
    go false h = late_is f s ∙ cond_false _ _ _ h ∙ e ∙ sym (late_none f s h)

-- and where it does not, the pair keeps its meaning
pub kept : (p : Profile) (f s : ℕ) (d : Decoded) → decode_result f s ≡ d → (d ≡ Undefined → ⊥) → decode_result_for p f s ≡ d
kept One f s d e known = e
kept Two f s d e known = go (adds_to_undefined f s)
  where
    go : (late_decode_result f s ≡ decode_result f s) ⊎ (decode_result f s ≡ Undefined) → late_decode_result f s ≡ d
    go (inl same) = same ∙ e
    go (inr none) = absurd (known (sym e ∙ none))

pub is_kept : (p : Profile) (f s : ℕ) (i : Instr) (n : ℕ) → decode_result f s ≡ Is i n → decode_result_for p f s ≡ Is i n
is_kept p f s i n e = kept p f s (Is i n) e (λ never. cc)

pub unpredictable_kept : (p : Profile) (f s : ℕ) → decode_result f s ≡ Unpredictable → decode_result_for p f s ≡ Unpredictable
unpredictable_kept p f s e = kept p f s Unpredictable e (λ never. cc)

pub not_in_profile_kept : (p : Profile) (f s : ℕ) → decode_result f s ≡ NotInProfile → decode_result_for p f s ≡ NotInProfile
not_in_profile_kept p f s e = kept p f s NotInProfile e (λ never. cc)

-- below 0xe800 the second halfword plays no part
late_narrow : (f s : ℕ) → f < 0xe800 → late_decode_result f s ≡ first_fit (kept_rows (narrow_rows (late_rows ++ rows)) (late_rows ++ rows)) f s
unfolding late_decode_result
late_narrow f s below = first_fit-kept (narrow_rows (late_rows ++ rows)) (late_rows ++ rows) f s (drops-narrow (late_rows ++ rows) f refl below)

late_alone : (f s other : ℕ) → f < 0xe800 → late_decode_result f s ≡ late_decode_result f other
late_alone f s other below = late_narrow f s below ∙ sym (late_narrow f other below)

pub alone_for : (p : Profile) (f s other : ℕ) → f < 0xe800 → decode_result_for p f s ≡ decode_result_for p f other
alone_for One = alone
alone_for Two = late_alone

-- an instruction has the size that its first halfword tells
late_size-narrow : (f s : ℕ) → f < 0xe800 → IsOfSize 2 (late_decode_result f s)
late_size-narrow f s below =
    rw (late_narrow f s below)
    (from_test 2 (first_fit (kept_rows (narrow_rows (late_rows ++ rows)) (late_rows ++ rows)) f s)
    (first_fit-size 2 (kept_rows (narrow_rows (late_rows ++ rows)) (late_rows ++ rows)) f s refl))

late_wide : (f s : ℕ) → 0xe800 ≤ f → f < 0x10000 → late_decode_result f s ≡ first_fit (kept_rows (wide_rows (late_rows ++ rows)) (late_rows ++ rows)) f s
unfolding late_decode_result
late_wide f s above below =
    first_fit-kept (wide_rows (late_rows ++ rows)) (late_rows ++ rows) f s (drops_in_at (wide_rows (late_rows ++ rows)) (late_rows ++ rows) 0xe800 0x1800 refl f above below)

late_size-wide : (f s : ℕ) → 0xe800 ≤ f → f < 0x10000 → IsOfSize 4 (late_decode_result f s)
late_size-wide f s above below =
    rw (late_wide f s above below)
    (from_test 4 (first_fit (kept_rows (wide_rows (late_rows ++ rows)) (late_rows ++ rows)) f s)
    (first_fit-size 4 (kept_rows (wide_rows (late_rows ++ rows)) (late_rows ++ rows)) f s refl))

late_sized : (f s : ℕ) → f < 0x10000 → IsOfSize (size_of f) (late_decode_result f s)
late_sized f s below = elim (cases_lt f 0xe800) [
  | inl low ↦ rw (lt-leb 0xe800 f low) (late_size-narrow f s low)
  | inr high ↦ rw (le-leb 0xe800 f high) (late_size-wide f s high below)
]

pub sized_for : (p : Profile) (f s : ℕ) → f < 0x10000 → IsOfSize (size_of f) (decode_result_for p f s)
sized_for One = sized
sized_for Two = late_sized

-- UDF is undefined in both
pub udf_for : (p : Profile) (f s : ℕ) → 0xde00 ≤ f → f < 0xdf00 → decode_result_for p f s ≡ Undefined
udf_for One f s a b = none_de00 f s a b
udf_for Two f s a b = added f s (none_de00 f s a b) ∙ none_bc f s (omega arith) (omega arith)
