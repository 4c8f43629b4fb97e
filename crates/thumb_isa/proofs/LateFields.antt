-- The second profile's instructions are those of the first and the five that its own rows name, with their fields in range.
use Rattle.std.proofs.Common.{◌≡◌, ℕ, suc, ◌+◌, ◌*◌, ◌/◌, ◌%◌, ◌-◌, ◌^◌, ◌<◌, ◌≤◌, Bool, true, false, not, ◌&&◌, ◌==◌, bit_and, nat_lt, cond, Option, Some, None, List, [], ◌∷◌, ℤ, pos, negsuc, ◌⊎◌, inl, inr, refl, arith, sym, ◌∙◌, ap, subst}
use Rattle.std.specs.List.{list_all}
use Rattle.std.proofs.lemmas.Nat.{and_le_r, and_mod}
use Rattle.std.proofs.lemmas.Bool.{cases_lt, lt-ltb, le-ltb, ltb-true}
use Rattle.std.proofs.lemmas.Bool.Decides.{nat_tests}
use Rattle.thumb_isa.specs.declared.instr.Instr.{Instr}
use Rattle.thumb_isa.specs.declared.instr.Instr.TheVariants.{Cbz, BWide, MovW, MovT, Div}
use Rattle.thumb_isa.specs.declared.instr.Decoded.{Decoded}
use Rattle.thumb_isa.specs.declared.instr.Decoded.TheVariants.{Is, Undefined, Unpredictable, NotInProfile}
use Rattle.thumb_isa.specs.declared.profile.Profile.{Profile}
use Rattle.thumb_isa.specs.declared.profile.Profile.TheVariants.{One, Two}
use Rattle.thumb_isa.specs.Fields.{field, signed_value}
use Rattle.thumb_isa.specs.Range.{IsBranch, IsGeneral}
use Rattle.thumb_isa.specs.Rows.{Row, fits_row, fits_second, rows, late_rows, first_fit, decode_result, late_decode_result, decode_result_for, bl_offset, cbz_offset, wide_d, wide_imm}
use Rattle.thumb_isa.specs.Laws.{late_of, is_late, IsLate, AddsFive, FirstHasNone}
use Rattle.thumb_isa.proofs.Blocks.{both}
use Rattle.thumb_isa.proofs.BothProfiles.{adds_to_undefined, added}
use Rattle.thumb_isa.proofs.LateTable.{none_below, cbz_b1, none_b2, cbz_b3, none_b4, cbnz_b9, none_ba, cbnz_bb, none_bc, none_f8, none_fba, none_fbc, none_8, b_wide_9, none_a, b_wide_b, none_c, none_f0, none_f25, none_f2d, none_f65, none_f6d, mov_w, mov_t, mov_w_none, mov_t_none, sdiv_none, sdiv_none_third, sdiv, sdiv_no_n, sdiv_no_d, sdiv_no_m, udiv_none, udiv_none_third, udiv, udiv_no_n, udiv_no_d, udiv_no_m}

-- ---- the first profile has none of the five

abbrev is_first : Decoded → Bool
is_first (Is i size) = not (is_late i)
is_first Undefined = true
is_first Unpredictable = true
is_first NotInProfile = true

either : (b : Bool) (x y : Decoded) → is_first x ≡ true → is_first y ≡ true → is_first (cond b x y) ≡ true
either true x y p q = p
either false x y p q = q

fit_first : (rs : List Row) (f s : ℕ) → list_all (λ row. is_first (row.means f s)) rs ≡ true → is_first (first_fit rs f s) ≡ true
fit_first [] f s h = refl
fit_first (row ∷ more) f s h =
    let two = both (is_first (row.means f s)) (list_all (λ row. is_first (row.means f s)) more) h in
    either (fits_row row f s) (row.means f s) (first_fit more f s) two.0 (fit_first more f s two.1)

decoded_first : (f s : ℕ) → is_first (decode_result f s) ≡ true
unfolding decode_result
decoded_first f s = fit_first rows f s refl

false_of : (b : Bool) → not b ≡ true → b ≡ false
false_of true h = cc
false_of false h = refl

pub first_has_none : FirstHasNone
first_has_none f s i n e = false_of (is_late i) (subst (λ d. is_first d ≡ true) e (decoded_first f s))

-- ---- what the late rows say depends on the lower sixteen bits of each number

and_short : (h mask : ℕ) → nat_lt mask (2 ^ 16) ≡ true → bit_and h mask ≡ bit_and (h % 2 ^ 16) mask
and_short h mask t =
    let below : mask < 2 ^ 16 = ltb-true mask (2 ^ 16) t in
    let cut = and_mod h mask 16 in
    let small = and_le_r h mask in
    let same : mask % 2 ^ 16 ≡ mask = omega arith in
    let whole : bit_and h mask ≡ bit_and h mask % 2 ^ 16 = omega arith in
    whole ∙ cut ∙ ap (bit_and (h % 2 ^ 16)) same

abbrev short_second : Option (ℕ × ℕ) → Bool
short_second None = true
short_second (Some p) = nat_lt p.0 (2 ^ 16)

abbrev is_short : Row → Bool
is_short row = nat_lt row.mask (2 ^ 16) && short_second row.second

second_short : (p : Option (ℕ × ℕ)) (s : ℕ) → short_second p ≡ true → fits_second p s ≡ fits_second p (s % 2 ^ 16)
second_short None s h = refl
second_short (Some p) s h = ap (λ n. n == p.1) (and_short s p.0 h)

and_same : (a b c d : Bool) → a ≡ c → b ≡ d → (a && b) ≡ (c && d)
and_same a b c d e f = rw (e, f) refl

fits_short : (row : Row) (f s : ℕ) → is_short row ≡ true → fits_row row f s ≡ fits_row row (f % 2 ^ 16) (s % 2 ^ 16)
fits_short row f s h =
    let two = both (nat_lt row.mask (2 ^ 16)) (short_second row.second) h in
    and_same _ _ _ _ (ap (λ n. n == row.value) (and_short f row.mask two.0)) (second_short row.second s two.1)

abbrev MeanShort : List Row → Type 0
MeanShort [] = Unit {0}
MeanShort (row ∷ more) = ((f s : ℕ) → row.means f s ≡ row.means (f % 2 ^ 16) (s % 2 ^ 16)) × MeanShort more

cond_same : (a b : Bool) (x y z w : Decoded) → a ≡ b → x ≡ z → y ≡ w → cond a x y ≡ cond b z w
cond_same a b x y z w e f g = rw (e, f, g) refl

first_fit-short : (rs : List Row) → MeanShort rs → list_all is_short rs ≡ true → (f s : ℕ) → first_fit rs f s ≡ first_fit rs (f % 2 ^ 16) (s % 2 ^ 16)
first_fit-short [] m h f s = refl
first_fit-short (row ∷ more) m h f s =
    let two = both (is_short row) (list_all is_short more) h in
    cond_same (fits_row row f s) (fits_row row (f % 2 ^ 16) (s % 2 ^ 16)) _ _ _ _ (fits_short row f s two.0) (m.0 f s) (first_fit-short more m.1 two.1 f s)

cbz_short : (f s : ℕ)
    → Is (Cbz (field f 11 1 == 1) (field f 0 3) (pos (cbz_offset f))) 2 ≡ Is (Cbz (field (f % 2 ^ 16) 11 1 == 1) (field (f % 2 ^ 16) 0 3) (pos (cbz_offset (f % 2 ^ 16)))) 2
cbz_short f s =
    let op : field (f % 2 ^ 16) 11 1 ≡ field f 11 1 = omega arith in
    let n : field (f % 2 ^ 16) 0 3 ≡ field f 0 3 = omega arith in
    let off : cbz_offset (f % 2 ^ 16) ≡ cbz_offset f = omega arith in
    ap (λ x. Is (Cbz (x == 1) (field f 0 3) (pos (cbz_offset f))) 2) (sym op)
    ∙ ap (λ x. Is (Cbz (field (f % 2 ^ 16) 11 1 == 1) x (pos (cbz_offset f))) 2) (sym n)
    ∙ ap (λ x. Is (Cbz (field (f % 2 ^ 16) 11 1 == 1) (field (f % 2 ^ 16) 0 3) (pos x)) 2) (sym off)

abbrev offset_of : ℕ → ℕ → ℕ → ℕ → ℕ → ℤ
offset_of sign j1 j2 high low =
    signed_value 25 (sign * 2 ^ 24 + cond (j1 == sign) 1 0 * 2 ^ 23 + cond (j2 == sign) 1 0 * 2 ^ 22 + high * 2 ^ 12 + low * 2)

offset_same : (a b c d e f g h i j : ℕ) → a ≡ f → b ≡ g → c ≡ h → d ≡ i → e ≡ j → offset_of a b c d e ≡ offset_of f g h i j
offset_same a b c d e f g h i j p q r s t = rw (p, q, r, s, t) refl

b_wide_short : (f s : ℕ) → Is (BWide (bl_offset f s)) 4 ≡ Is (BWide (bl_offset (f % 2 ^ 16) (s % 2 ^ 16))) 4
b_wide_short f s =
    ap (λ off. Is (BWide off) 4)
    (offset_same (field f 10 1) (field s 13 1) (field s 11 1) (field f 0 10) (field s 0 11)
    (field (f % 2 ^ 16) 10 1) (field (s % 2 ^ 16) 13 1) (field (s % 2 ^ 16) 11 1) (field (f % 2 ^ 16) 0 10) (field (s % 2 ^ 16) 0 11) (omega arith) (omega arith) (omega arith) (omega arith) (omega arith))

d_short : (s : ℕ) → wide_d s ≡ wide_d (s % 2 ^ 16)
d_short s = omega arith

imm_short : (f s : ℕ) → wide_imm f s ≡ wide_imm (f % 2 ^ 16) (s % 2 ^ 16)
imm_short f s = omega arith

move_short : (i : ℕ → ℕ → Instr) (f s : ℕ) → Is (i (wide_d s) (wide_imm f s)) 4 ≡ Is (i (wide_d (s % 2 ^ 16)) (wide_imm (f % 2 ^ 16) (s % 2 ^ 16))) 4
move_short i f s =
    ap (λ d. Is (i d (wide_imm f s)) 4) (d_short s) ∙ ap (λ imm. Is (i (wide_d (s % 2 ^ 16)) imm) 4) (imm_short f s)

div_short : (signed_value : Bool) (f s : ℕ)
    → Is (Div signed_value (field s 8 4) (field f 0 4) (field s 0 4)) 4 ≡ Is (Div signed_value (field (s % 2 ^ 16) 8 4) (field (f % 2 ^ 16) 0 4) (field (s % 2 ^ 16) 0 4)) 4
div_short signed_value f s =
    let d : field s 8 4 ≡ field (s % 2 ^ 16) 8 4 = omega arith in
    let n : field f 0 4 ≡ field (f % 2 ^ 16) 0 4 = omega arith in
    let m : field s 0 4 ≡ field (s % 2 ^ 16) 0 4 = omega arith in
    ap (λ x. Is (Div signed_value x (field f 0 4) (field s 0 4)) 4) d
    ∙ ap (λ x. Is (Div signed_value (field (s % 2 ^ 16) 8 4) x (field s 0 4)) 4) n
    ∙ ap (λ x. Is (Div signed_value (field (s % 2 ^ 16) 8 4) (field (f % 2 ^ 16) 0 4) x) 4) m

late_rows_short : MeanShort late_rows
late_rows_short = (
  λ f s. refl,
  (
    λ f s. refl,
    (
      λ f s. refl,
      (
        λ f s. refl,
        (
          λ f s. refl,
          (
            λ f s. refl,
            (
              λ f s. refl,
              (
                λ f s. refl,
                (
                  λ f s. refl,
                  (
                    λ f s. refl,
                    (cbz_short, (b_wide_short, (move_short MovW, (move_short MovT, (div_short true, (div_short false, tt)))))),
                  ),
                ),
              ),
            ),
          ),
        ),
      ),
    ),
  ),
)

late_short : (f s : ℕ) → late_of f s ≡ late_of (f % 2 ^ 16) (s % 2 ^ 16)
unfolding late_of
late_short f s = first_fit-short late_rows late_rows_short refl f s

-- ---- their instructions have fields in range

abbrev LateFine : Decoded → Type 0
LateFine (Is i size) = IsLate i size
LateFine Undefined = Unit {0}
LateFine Unpredictable = Unit {0}
LateFine NotInProfile = Unit {0}

none_fine : (f s : ℕ) → late_of f s ≡ Undefined → LateFine (late_of f s)
none_fine f s e = subst LateFine (sym e) tt

refused_fine : (f s : ℕ) → late_of f s ≡ Unpredictable → LateFine (late_of f s)
refused_fine f s e = subst LateFine (sym e) tt

cbz_fine : (f s : ℕ) → late_of f s ≡ Is (Cbz (field f 11 1 == 1) (field f 0 3) (pos (cbz_offset f))) 2 → LateFine (late_of f s)
cbz_fine f s e = subst LateFine (sym e) (record { late = refl; fields = (omega arith, (omega arith, omega arith)); sized = refl })

branch_in : (v : ℕ) → v < 2 ^ 25 → v % 2 ≡ 0 → IsBranch (2 ^ 24) (signed_value 25 v)
branch_in v h e = elim (cases_lt v 0x1000000) [
  | inl l ↦ rw (lt-ltb v 0x1000000 l) (l, e)
  | inr m ↦ rw (le-ltb v 0x1000000 m, lt-ltb v 0x2000000 h) (negative v (0x2000000 - suc v) m (omega arith) e)
]
  where
    negative : (v n : ℕ) → 0x1000000 ≤ v → n + suc v ≡ 0x2000000 → v % 2 ≡ 0 → (n < 0x1000000) × (n % 2 ≡ 1)
    negative v n m s e = (omega arith, omega arith)

bit_below : (b : Bool) → cond b 1 0 < 2
bit_below true = omega arith
bit_below false = omega arith

pub wide_offset : (f s : ℕ) → IsBranch (2 ^ 24) (bl_offset f s)
wide_offset f s =
    let one = bit_below (field s 13 1 == field f 10 1) in
    let two = bit_below (field s 11 1 == field f 10 1) in
    branch_in (field f 10 1 * 2 ^ 24 + cond (field s 13 1 == field f 10 1) 1 0 * 2 ^ 23 + cond (field s 11 1 == field f 10 1) 1 0 * 2 ^ 22 + field f 0 10 * 2 ^ 12 + field s 0 11 * 2) (omega arith) (omega arith)

b_wide_fine : (f s : ℕ) → late_of f s ≡ Is (BWide (bl_offset f s)) 4 → LateFine (late_of f s)
b_wide_fine f s e = subst LateFine (sym e) (record { late = refl; fields = wide_offset f s; sized = refl })

-- a register of four bits is sp, pc or general
register_kind : (r : ℕ) → r < 16 → IsGeneral r ⊎ ((r ≡ 13) ⊎ (r ≡ 15))
register_kind r h = elim (cases_lt r 13) [
  | inl low ↦ inl (omega arith, λ e. omega arith)
  | inr a ↦ elim (cases_lt 13 r) [
    | inl b ↦ elim (cases_lt r 15) [
      | inl c ↦ inl (c, λ e. omega arith)
      | inr d ↦ inr (inr (omega arith))
    ]
    | inr b ↦ inr (inl (omega arith))
  ]
]

mov_w_fine : (f s : ℕ) → 0xf240 ≤ f → f < 0xf650 → field f 0 10 / 2 ^ 4 ≡ 0x24 → s < 0x8000 → LateFine (late_of f s)
mov_w_fine f s a b c d = elim (register_kind (wide_d s) (omega arith)) [
  | inl g ↦ subst LateFine (sym (mov_w f s a b c d g)) (record { late = refl; fields = (g, omega arith); sized = refl })
  | inr n ↦ refused_fine f s (mov_w_none f s a b c d n)
]

mov_t_fine : (f s : ℕ) → 0xf2c0 ≤ f → f < 0xf6d0 → field f 0 10 / 2 ^ 4 ≡ 0x2c → s < 0x8000 → LateFine (late_of f s)
mov_t_fine f s a b c d = elim (register_kind (wide_d s) (omega arith)) [
  | inl g ↦ subst LateFine (sym (mov_t f s a b c d g)) (record { late = refl; fields = (g, omega arith); sized = refl })
  | inr n ↦ refused_fine f s (mov_t_none f s a b c d n)
]

sdiv_fine : (f s : ℕ) → 0xfb90 ≤ f → f < 0xfba0 → s < 0x10000 → LateFine (late_of f s)
sdiv_fine f s a b c = elim (cases_lt s 0xf000) [
  | inl low ↦ none_fine f s (sdiv_none f s a b low)
  | inr d ↦ elim (cases_lt (field s 4 4) 15) [
    | inl third ↦ none_fine f s (sdiv_none_third f s a b d c third)
    | inr third ↦ sdiv_ones f s a b d c (omega arith) (register_kind (field f 0 4) (omega arith)) (register_kind (field s 8 4) (omega arith)) (register_kind (field s 0 4) (omega arith))
  ]
]
  where
    sdiv_ones : (f s : ℕ) → 0xfb90 ≤ f → f < 0xfba0 → 0xf000 ≤ s → s < 0x10000 → field s 4 4 ≡ 15
        → IsGeneral (field f 0 4) ⊎ ((field f 0 4 ≡ 13) ⊎ (field f 0 4 ≡ 15))
        → IsGeneral (field s 8 4) ⊎ ((field s 8 4 ≡ 13) ⊎ (field s 8 4 ≡ 15)) → IsGeneral (field s 0 4) ⊎ ((field s 0 4 ≡ 13) ⊎ (field s 0 4 ≡ 15)) → LateFine (late_of f s)
    sdiv_ones f s a b d c e (inl n) (inl r) (inl m) = subst LateFine (sym (sdiv f s a b d c e n r m)) (record { late = refl; fields = (r, n, m); sized = refl })
    sdiv_ones f s a b d c e (inl n) (inl r) (inr other) = refused_fine f s (sdiv_no_m f s a b d c e n r other)
    sdiv_ones f s a b d c e (inl n) (inr other) m = refused_fine f s (sdiv_no_d f s a b d c e n other)
    sdiv_ones f s a b d c e (inr other) r m = refused_fine f s (sdiv_no_n f s a b d c e other)

udiv_fine : (f s : ℕ) → 0xfbb0 ≤ f → f < 0xfbc0 → s < 0x10000 → LateFine (late_of f s)
udiv_fine f s a b c = elim (cases_lt s 0xf000) [
  | inl low ↦ none_fine f s (udiv_none f s a b low)
  | inr d ↦ elim (cases_lt (field s 4 4) 15) [
    | inl third ↦ none_fine f s (udiv_none_third f s a b d c third)
    | inr third ↦ udiv_ones f s a b d c (omega arith) (register_kind (field f 0 4) (omega arith)) (register_kind (field s 8 4) (omega arith)) (register_kind (field s 0 4) (omega arith))
  ]
]
  where
    udiv_ones : (f s : ℕ) → 0xfbb0 ≤ f → f < 0xfbc0 → 0xf000 ≤ s → s < 0x10000 → field s 4 4 ≡ 15
        → IsGeneral (field f 0 4) ⊎ ((field f 0 4 ≡ 13) ⊎ (field f 0 4 ≡ 15))
        → IsGeneral (field s 8 4) ⊎ ((field s 8 4 ≡ 13) ⊎ (field s 8 4 ≡ 15)) → IsGeneral (field s 0 4) ⊎ ((field s 0 4 ≡ 13) ⊎ (field s 0 4 ≡ 15)) → LateFine (late_of f s)
    udiv_ones f s a b d c e (inl n) (inl r) (inl m) = subst LateFine (sym (udiv f s a b d c e n r m)) (record { late = refl; fields = (r, n, m); sized = refl })
    udiv_ones f s a b d c e (inl n) (inl r) (inr other) = refused_fine f s (udiv_no_m f s a b d c e n r other)
    udiv_ones f s a b d c e (inl n) (inr other) m = refused_fine f s (udiv_no_d f s a b d c e n other)
    udiv_ones f s a b d c e (inr other) r m = refused_fine f s (udiv_no_n f s a b d c e other)

low_fine : (f s : ℕ) → f < 0xf000 → LateFine (late_of f s)
low_fine f s h = elim (cases_lt f 0xb100) [
  | inl a ↦ none_fine f s (none_below f s a)
  | inr a ↦ elim (cases_lt f 0xb200) [
    | inl b ↦ cbz_fine f s (cbz_b1 f s a b)
    | inr b ↦ elim (cases_lt f 0xb300) [
      | inl c ↦ none_fine f s (none_b2 f s b c)
      | inr c ↦ elim (cases_lt f 0xb400) [
        | inl d ↦ cbz_fine f s (cbz_b3 f s c d)
        | inr d ↦ elim (cases_lt f 0xb900) [
          | inl e ↦ none_fine f s (none_b4 f s d e)
          | inr e ↦ elim (cases_lt f 0xba00) [
            | inl g ↦ cbz_fine f s (cbnz_b9 f s e g)
            | inr g ↦ elim (cases_lt f 0xbb00) [
              | inl i ↦ none_fine f s (none_ba f s g i)
              | inr i ↦ elim (cases_lt f 0xbc00) [
                | inl j ↦ cbz_fine f s (cbnz_bb f s i j)
                | inr j ↦ none_fine f s (none_bc f s j h)
              ]
            ]
          ]
        ]
      ]
    ]
  ]
]

pairs_fine : (f s : ℕ) → 0xf000 ≤ f → f < 0xf800 → s < 0x10000 → LateFine (late_of f s)
pairs_fine f s a b c = elim (cases_lt s 0x8000) [
  | inl d ↦ elim (cases_lt f 0xf240) [
    | inl e ↦ none_fine f s (none_f0 f s a e d)
    | inr e ↦ elim (cases_lt f 0xf250) [
      | inl g ↦ mov_w_fine f s e (omega arith) (omega arith) d
      | inr g ↦ elim (cases_lt f 0xf2c0) [
        | inl h ↦ none_fine f s (none_f25 f s g h d)
        | inr h ↦ elim (cases_lt f 0xf2d0) [
          | inl i ↦ mov_t_fine f s h (omega arith) (omega arith) d
          | inr i ↦ elim (cases_lt f 0xf640) [
            | inl j ↦ none_fine f s (none_f2d f s i j d)
            | inr j ↦ elim (cases_lt f 0xf650) [
              | inl k ↦ mov_w_fine f s (omega arith) k (omega arith) d
              | inr k ↦ elim (cases_lt f 0xf6c0) [
                | inl l ↦ none_fine f s (none_f65 f s k l d)
                | inr l ↦ elim (cases_lt f 0xf6d0) [
                  | inl m ↦ mov_t_fine f s (omega arith) m (omega arith) d
                  | inr m ↦ none_fine f s (none_f6d f s m b d)
                ]
              ]
            ]
          ]
        ]
      ]
    ]
  ]
  | inr d ↦ elim (cases_lt s 0x9000) [
    | inl e ↦ none_fine f s (none_8 f s a b d e)
    | inr e ↦ elim (cases_lt s 0xa000) [
      | inl g ↦ b_wide_fine f s (b_wide_9 f s a b e g)
      | inr g ↦ elim (cases_lt s 0xb000) [
        | inl h ↦ none_fine f s (none_a f s a b g h)
        | inr h ↦ elim (cases_lt s 0xc000) [
          | inl i ↦ b_wide_fine f s (b_wide_b f s a b h i)
          | inr i ↦ none_fine f s (none_c f s a b i c)
        ]
      ]
    ]
  ]
]

high_fine : (f s : ℕ) → 0xf800 ≤ f → f < 0x10000 → s < 0x10000 → LateFine (late_of f s)
high_fine f s a b c = elim (cases_lt f 0xfb90) [
  | inl d ↦ none_fine f s (none_f8 f s a d)
  | inr d ↦ elim (cases_lt f 0xfba0) [
    | inl e ↦ sdiv_fine f s d e c
    | inr e ↦ elim (cases_lt f 0xfbb0) [
      | inl g ↦ none_fine f s (none_fba f s e g)
      | inr g ↦ elim (cases_lt f 0xfbc0) [
        | inl h ↦ udiv_fine f s g h c
        | inr h ↦ none_fine f s (none_fbc f s h b)
      ]
    ]
  ]
]

short_fine : (f s : ℕ) → f < 0x10000 → s < 0x10000 → LateFine (late_of f s)
short_fine f s a b = elim (cases_lt f 0xf000) [
  | inl c ↦ low_fine f s c
  | inr c ↦ elim (cases_lt f 0xf800) [
    | inl d ↦ pairs_fine f s c d b
    | inr d ↦ high_fine f s d a b
  ]
]

-- of any two numbers, also those that are no halfwords
pub late_found : (f s : ℕ) (i : Instr) (n : ℕ) → late_of f s ≡ Is i n → IsLate i n
late_found f s i n e =
    subst LateFine e (subst LateFine (sym (late_short f s)) (short_fine (f % 2 ^ 16) (s % 2 ^ 16) (omega arith) (omega arith)))

pub adds_five : AddsFive
adds_five f s i n e = elim (adds_to_undefined f s) [
  | inl same ↦ inl (sym same ∙ e)
  | inr none ↦ inr (late_found f s i n (sym (added f s none) ∙ e))
]

-- an instruction of either profile is one of the first, of the same size, or the profile is the second and it is one of the five
pub first_or_late : (p : Profile) (f s : ℕ) (i : Instr) (n : ℕ) → decode_result_for p f s ≡ Is i n → (decode_result f s ≡ Is i n) ⊎ ((p ≡ Two) × IsLate i n)
first_or_late One f s i n e = inl e
first_or_late Two f s i n e = elim (adds_five f s i n e) [
  | inl same ↦ inl same
  | inr late ↦ inr (refl, late)
]
