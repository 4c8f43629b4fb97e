-- An instruction that some pair of halfwords decodes to has that pair as its code.
use Rattle.std.proofs.Common.{◌≡◌, ℕ, ◌+◌, ◌*◌, ◌/◌, ◌%◌, ◌-◌, ◌^◌, ◌<◌, ◌≤◌, Bool, true, false, not, ◌&&◌, ◌==◌, nat_lt, cond, pos, negsuc, Result, Ok, Err, List, refl, arith, suc, ◌⊎◌, inl, inr, ap, subst, ◌∙◌, sym}
use Rattle.std.specs.Int.{from_bool}
use Rattle.std.proofs.lemmas.Bool.{cases_lt, lt-ltb, le-ltb, eqb-true, eq-eqb, and_parts, and_from}
use Rattle.std.proofs.lemmas.Bool.Decides.{nat_tests}
use Rattle.thumb_isa.specs.declared.instr.Instr.{Instr}
use Rattle.thumb_isa.specs.declared.instr.Decoded.{Decoded}
use Rattle.thumb_isa.specs.declared.instr.Decoded.TheVariants.{Is, Undefined, Unpredictable, NotInProfile}
use Rattle.thumb_isa.specs.declared.instr.Instr.TheVariants.{Bl, Barrier, Cbz, BWide, MovW, MovT, Div}
use Rattle.thumb_isa.specs.Fields.{field, signed_value}
use Rattle.thumb_isa.specs.Rows.{Row, rows, first_fit, decode_result, late_decode_result, bl_offset, cbz_offset, wide_d, wide_imm}
use Rattle.thumb_isa.specs.Range.{IsGeneral}
use Rattle.thumb_isa.specs.Laws.{late_of}
use Rattle.thumb_isa.proofs.Blocks.{all_from, all_from_at}
use Rattle.thumb_isa.proofs.Search.{kept, near, decoded_near}
use Rattle.thumb_isa.proofs.Table.{none_f800, none_f000_0000, none_f000_8000, none_f380_8000, msr, none_f380_8900, none_f390_8000, none_f3bf_8000, dsb, dmb, isb, none_f3bf_8f70, none_f3c0_8000, mrs, none_f3f0_8000, none_f000_9000, bl_13, none_f000_e000, bl_15}
use Rattle.thumb_isa.proofs.LateTable.{none_below, cbz_b1, none_b2, cbz_b3, none_b4, cbnz_b9, none_ba, cbnz_bb, none_bc, none_f8, none_fba, none_fbc, none_8, b_wide_9, none_a, b_wide_b, none_c, none_f0, none_f25, none_f2d, none_f65, none_f6d, mov_w, mov_t, mov_w_none, mov_t_none, sdiv_none, sdiv_none_third, sdiv, sdiv_no_n, sdiv_no_d, sdiv_no_m, udiv_none, udiv_none_third, udiv, udiv_no_n, udiv_no_d, udiv_no_m}
use Rattle.thumb_isa.proofs.BothProfiles.{adds_to_undefined, added}
use Rattle.thumb_encode.specs.declared.code.Code.{Code}
use Rattle.thumb_encode.specs.declared.code.Code.TheVariants.{Half, Pair}
use Rattle.thumb_isa.specs.declared.encode_fault.EncodeFault.{EncodeFault}
use Rattle.thumb_isa.specs.declared.encode_fault.EncodeFault.TheVariants.{RegisterRange, ImmediateRange}
use Rattle.thumb_encode.specs.Codes.{encode_result, refused_if, target_field, with_field, long_code, sixteen_code, is_general, code_at}

-- the result is this code
abbrev is_code : Result Code EncodeFault → Code → Bool
is_code (Ok (Half a)) (Half b) = a == b
is_code (Ok (Half a)) (Pair b c) = false
is_code (Ok (Pair a b)) (Half c) = false
is_code (Ok (Pair a b)) (Pair c d) = (a == c) && (b == d)
is_code (Err fault) code = false

from_test : (r : Result Code EncodeFault) (code : Code) → is_code r code ≡ true → r ≡ Ok code
from_test (Ok (Half a)) (Half b) h = ap (λ x. Ok (Half x)) (eqb-true a b h)
from_test (Ok (Half a)) (Pair b c) h = cc
from_test (Ok (Pair a b)) (Half c) h = cc
from_test (Ok (Pair a b)) (Pair c d) h = let two = and_parts (a == c) (b == d) h in rw (eqb-true a c two.0, eqb-true b d two.1) refl
from_test (Err fault) code h = cc

-- an instruction among these is encoded to the pair again
abbrev gives_back : ℕ → ℕ → Decoded → Bool
gives_back first second (Is i size) = is_code (encode_result i) (code_at first second size)
gives_back first second Undefined = true
gives_back first second Unpredictable = true
gives_back first second NotInProfile = true

-- so is each of the n halfwords from low up, of these rows
abbrev give_back : List Row → ℕ → ℕ → ℕ → Bool
give_back few low n second = all_from (λ first. gives_back first second (first_fit few first second)) n low

back_in : (low n second : ℕ) → give_back (kept (near rows low n) rows) low n second ≡ true
    → (first : ℕ) → low ≤ first → first < low + n → gives_back first second (decode_result first second) ≡ true
back_in low n second h first above below =
    rw (decoded_near low n second first above below)
    (all_from_at (λ first. gives_back first second (first_fit (kept (near rows low n) rows) first second)) n low h first above below)

back_0000 : (h s : ℕ) → 0x0000 ≤ h → h < 0x1000 → gives_back h s (decode_result h s) ≡ true
back_0000 h s = back_in 0x0000 0x1000 s refl h

back_1000 : (h s : ℕ) → 0x1000 ≤ h → h < 0x2000 → gives_back h s (decode_result h s) ≡ true
back_1000 h s = back_in 0x1000 0x1000 s refl h

back_2000 : (h s : ℕ) → 0x2000 ≤ h → h < 0x3000 → gives_back h s (decode_result h s) ≡ true
back_2000 h s = back_in 0x2000 0x1000 s refl h

back_3000 : (h s : ℕ) → 0x3000 ≤ h → h < 0x4000 → gives_back h s (decode_result h s) ≡ true
back_3000 h s = back_in 0x3000 0x1000 s refl h

back_4000 : (h s : ℕ) → 0x4000 ≤ h → h < 0x5000 → gives_back h s (decode_result h s) ≡ true
back_4000 h s = back_in 0x4000 0x1000 s refl h

back_5000 : (h s : ℕ) → 0x5000 ≤ h → h < 0x6000 → gives_back h s (decode_result h s) ≡ true
back_5000 h s = back_in 0x5000 0x1000 s refl h

back_6000 : (h s : ℕ) → 0x6000 ≤ h → h < 0x7000 → gives_back h s (decode_result h s) ≡ true
back_6000 h s = back_in 0x6000 0x1000 s refl h

back_7000 : (h s : ℕ) → 0x7000 ≤ h → h < 0x8000 → gives_back h s (decode_result h s) ≡ true
back_7000 h s = back_in 0x7000 0x1000 s refl h

back_8000 : (h s : ℕ) → 0x8000 ≤ h → h < 0x9000 → gives_back h s (decode_result h s) ≡ true
back_8000 h s = back_in 0x8000 0x1000 s refl h

back_9000 : (h s : ℕ) → 0x9000 ≤ h → h < 0xa000 → gives_back h s (decode_result h s) ≡ true
back_9000 h s = back_in 0x9000 0x1000 s refl h

back_a000 : (h s : ℕ) → 0xa000 ≤ h → h < 0xb000 → gives_back h s (decode_result h s) ≡ true
back_a000 h s = back_in 0xa000 0x1000 s refl h

back_b000 : (h s : ℕ) → 0xb000 ≤ h → h < 0xc000 → gives_back h s (decode_result h s) ≡ true
back_b000 h s = back_in 0xb000 0x1000 s refl h

back_c000 : (h s : ℕ) → 0xc000 ≤ h → h < 0xd000 → gives_back h s (decode_result h s) ≡ true
back_c000 h s = back_in 0xc000 0x1000 s refl h

back_d000 : (h s : ℕ) → 0xd000 ≤ h → h < 0xe000 → gives_back h s (decode_result h s) ≡ true
back_d000 h s = back_in 0xd000 0x1000 s refl h

back_e000 : (h s : ℕ) → 0xe000 ≤ h → h < 0xf000 → gives_back h s (decode_result h s) ≡ true
back_e000 h s = back_in 0xe000 0x1000 s refl h

back_low : (h s : ℕ) → h < 0xf000 → gives_back h s (decode_result h s) ≡ true
back_low h s below = grind (arith, back_0000 h s, back_1000 h s, back_2000 h s, back_3000 h s, back_4000 h s, back_5000 h s, back_6000 h s, back_7000 h s, back_8000 h s, back_9000 h s, back_a000 h s, back_b000 h s, back_c000 h s, back_d000 h s, back_e000 h s)

back_high : (h s : ℕ) → 0xf800 ≤ h → h < 0x10000 → gives_back h s (decode_result h s) ≡ true
back_high h s a b = rw (none_f800 h s a b) refl

-- a branch offset that is read off a field gives the field back
signed_target : (t : ℕ) → t < 0x1000000 → target_field 0x1000000 (signed_value 25 (t * 2)) ≡ Ok t
signed_target t h = elim (cases_lt (t * 2) 0x1000000) [
  | inl l ↦ rw (lt-ltb (t * 2) 0x1000000 l) (positive t l)
  | inr m ↦ rw (le-ltb (t * 2) 0x1000000 m, lt-ltb (t * 2) 0x2000000 (omega arith)) (negative t (0x2000000 - suc (t * 2)) h m (omega arith))
]
  where
    positive : (t : ℕ) → t * 2 < 0x1000000 → target_field 0x1000000 (pos (t * 2)) ≡ Ok t
    positive t l = grind (arith, nat_tests)

    negative : (t n : ℕ) → t < 0x1000000 → 0x1000000 ≤ t * 2 → n + suc (t * 2) ≡ 0x2000000 → target_field 0x1000000 (negsuc n) ≡ Ok t
    negative t n h m e = grind (arith, nat_tests)

-- a J bit, by whether its I bit equals the sign
j_of_bit : (j sign : ℕ) → j < 2 → sign < 2 → from_bool (cond (j == sign) 1 0 == sign) ≡ j
j_of_bit j sign a b = grind (arith, nat_tests)

bit_below : (b : Bool) → cond b 1 0 < 2
bit_below true = omega arith
bit_below false = omega arith

same_target : (a b : ℕ) → a ≡ b → target_field 0x1000000 (signed_value 25 a) ≡ target_field 0x1000000 (signed_value 25 b)
same_target a b = ap (λ x. target_field 0x1000000 (signed_value 25 x))

long_code-parts : (base t sign i1 i2 i10 i11 j1 j2 : ℕ) → t / 2 ^ 23 ≡ sign → t / 2 ^ 22 % 2 ≡ i1 → t / 2 ^ 21 % 2 ≡ i2 → t / 2 ^ 11 % 2 ^ 10 ≡ i10
    → t % 2 ^ 11 ≡ i11
    → from_bool (i1 == sign) ≡ j1 → from_bool (i2 == sign) ≡ j2 → long_code base t ≡ Pair (0xf000 + sign * 2 ^ 10 + i10) (base + j1 * 2 ^ 13 + j2 * 2 ^ 11 + i11)
long_code-parts base t sign i1 i2 i10 i11 j1 j2 a b c d e f g = rw (a, b, c, d, e, f, g) refl

long_back-parts : (base sign i1 i2 i10 i11 j1 j2 first second : ℕ) → sign < 2 → i1 < 2 → i2 < 2 → i10 < 2 ^ 10 → i11 < 2 ^ 11
    → from_bool (i1 == sign) ≡ j1 → from_bool (i2 == sign) ≡ j2 → 0xf000 + sign * 2 ^ 10 + i10 ≡ first → base + j1 * 2 ^ 13 + j2 * 2 ^ 11 + i11 ≡ second
    → with_field (target_field 0x1000000 (signed_value 25 (sign * 2 ^ 24 + i1 * 2 ^ 23 + i2 * 2 ^ 22 + i10 * 2 ^ 12 + i11 * 2))) (long_code base) ≡ Ok (Pair first second)
long_back-parts base sign i1 i2 i10 i11 j1 j2 first second a b c d e f g p q =
    let t = sign * 2 ^ 23 + i1 * 2 ^ 22 + i2 * 2 ^ 21 + i10 * 2 ^ 11 + i11 in
    let target = same_target (sign * 2 ^ 24 + i1 * 2 ^ 23 + i2 * 2 ^ 22 + i10 * 2 ^ 12 + i11 * 2) (t * 2) (omega arith) ∙ signed_target t (omega arith) in
    let parts = long_code-parts base t sign i1 i2 i10 i11 j1 j2 (omega arith) (omega arith) (omega arith) (omega arith) (omega arith) f g in
    ap (λ r. with_field r (long_code base)) target ∙ ap (λ c. Ok c) (parts ∙ rw (p, q) refl)

long_back : (base h s : ℕ) → 0xf000 ≤ h → h < 0xf800 → base + field s 13 1 * 2 ^ 13 + field s 11 1 * 2 ^ 11 + field s 0 11 ≡ s
    → with_field (target_field 0x1000000 (bl_offset h s)) (long_code base) ≡ Ok (Pair h s)
long_back base h s a b e =
    long_back-parts base (field h 10 1) (cond (field s 13 1 == field h 10 1) 1 0) (cond (field s 11 1 == field h 10 1) 1 0) (field h 0 10) (field s 0 11) (field s 13 1) (field s 11 1) h s
    (omega arith) (bit_below _) (bit_below _) (omega arith) (omega arith)
    (j_of_bit (field s 13 1) (field h 10 1) (omega arith) (omega arith)) (j_of_bit (field s 11 1) (field h 10 1) (omega arith) (omega arith)) (omega arith) e

to_test : (r : Result Code EncodeFault) (a b : ℕ) → r ≡ Ok (Pair a b) → is_code r (Pair a b) ≡ true
to_test r a b e = rw e (and_from _ _ (eq-eqb a a refl) (eq-eqb b b refl))

barrier_back : (op option h s : ℕ) → op < 3 → option < 16 → h ≡ 0xf3bf → s ≡ 0x8f40 + op * 16 + option
    → is_code (encode_result (Barrier op option)) (Pair h s) ≡ true
barrier_back op option h s a b e f = grind (arith, nat_tests)

back_none_f000_0000 : (h s : ℕ) → 0xf000 ≤ h → h < 0xf800 → s < 0x8000 → gives_back h s (decode_result h s) ≡ true
back_none_f000_0000 h s a b c = rw (none_f000_0000 h s a b c) refl

back_none_f000_8000 : (h s : ℕ) → 0xf000 ≤ h → h < 0xf380 → 0x8000 ≤ s → s < 0x9000 → gives_back h s (decode_result h s) ≡ true
back_none_f000_8000 h s a b c d = rw (none_f000_8000 h s a b c d) refl

back_none_f380_8000 : (h s : ℕ) → 0xf380 ≤ h → h < 0xf390 → 0x8000 ≤ s → s < 0x8800 → gives_back h s (decode_result h s) ≡ true
back_none_f380_8000 h s a b c d = rw (none_f380_8000 h s a b c d) refl

back_msr : (h s : ℕ) → 0xf380 ≤ h → h < 0xf390 → 0x8800 ≤ s → s < 0x8900 → gives_back h s (decode_result h s) ≡ true
back_msr h s a b c d = rw (msr h s a b c d) refl

back_none_f380_8900 : (h s : ℕ) → 0xf380 ≤ h → h < 0xf390 → 0x8900 ≤ s → s < 0x9000 → gives_back h s (decode_result h s) ≡ true
back_none_f380_8900 h s a b c d = rw (none_f380_8900 h s a b c d) refl

back_none_f390_8000 : (h s : ℕ) → 0xf390 ≤ h → h < 0xf3bf → 0x8000 ≤ s → s < 0x9000 → gives_back h s (decode_result h s) ≡ true
back_none_f390_8000 h s a b c d = rw (none_f390_8000 h s a b c d) refl

back_none_f3bf_8000 : (h s : ℕ) → 0xf3bf ≤ h → h < 0xf3c0 → 0x8000 ≤ s → s < 0x8f40 → gives_back h s (decode_result h s) ≡ true
back_none_f3bf_8000 h s a b c d = rw (none_f3bf_8000 h s a b c d) refl

back_dsb : (h s : ℕ) → 0xf3bf ≤ h → h < 0xf3c0 → 0x8f40 ≤ s → s < 0x8f50 → gives_back h s (decode_result h s) ≡ true
back_dsb h s a b c d = rw (dsb h s a b c d) (barrier_back 0 (field s 0 4) h s (omega arith) (omega arith) (omega arith) (omega arith))

back_dmb : (h s : ℕ) → 0xf3bf ≤ h → h < 0xf3c0 → 0x8f50 ≤ s → s < 0x8f60 → gives_back h s (decode_result h s) ≡ true
back_dmb h s a b c d = rw (dmb h s a b c d) (barrier_back 1 (field s 0 4) h s (omega arith) (omega arith) (omega arith) (omega arith))

back_isb : (h s : ℕ) → 0xf3bf ≤ h → h < 0xf3c0 → 0x8f60 ≤ s → s < 0x8f70 → gives_back h s (decode_result h s) ≡ true
back_isb h s a b c d = rw (isb h s a b c d) (barrier_back 2 (field s 0 4) h s (omega arith) (omega arith) (omega arith) (omega arith))

back_none_f3bf_8f70 : (h s : ℕ) → 0xf3bf ≤ h → h < 0xf3c0 → 0x8f70 ≤ s → s < 0x9000 → gives_back h s (decode_result h s) ≡ true
back_none_f3bf_8f70 h s a b c d = rw (none_f3bf_8f70 h s a b c d) refl

back_none_f3c0_8000 : (h s : ℕ) → 0xf3c0 ≤ h → h < 0xf3ef → 0x8000 ≤ s → s < 0x9000 → gives_back h s (decode_result h s) ≡ true
back_none_f3c0_8000 h s a b c d = rw (none_f3c0_8000 h s a b c d) refl

back_mrs : (h s : ℕ) → 0xf3ef ≤ h → h < 0xf3f0 → 0x8000 ≤ s → s < 0x9000 → gives_back h s (decode_result h s) ≡ true
back_mrs h s a b c d = rw (mrs h s a b c d) refl

back_none_f3f0_8000 : (h s : ℕ) → 0xf3f0 ≤ h → h < 0xf800 → 0x8000 ≤ s → s < 0x9000 → gives_back h s (decode_result h s) ≡ true
back_none_f3f0_8000 h s a b c d = rw (none_f3f0_8000 h s a b c d) refl

back_none_f000_9000 : (h s : ℕ) → 0xf000 ≤ h → h < 0xf800 → 0x9000 ≤ s → s < 0xd000 → gives_back h s (decode_result h s) ≡ true
back_none_f000_9000 h s a b c d = rw (none_f000_9000 h s a b c d) refl

back_bl_13 : (h s : ℕ) → 0xf000 ≤ h → h < 0xf800 → 0xd000 ≤ s → s < 0xe000 → gives_back h s (decode_result h s) ≡ true
back_bl_13 h s a b c d = rw (bl_13 h s a b c d) (to_test (encode_result (Bl (bl_offset h s))) h s (long_back 0xd000 h s a b (omega arith)))

back_none_f000_e000 : (h s : ℕ) → 0xf000 ≤ h → h < 0xf800 → 0xe000 ≤ s → s < 0xf000 → gives_back h s (decode_result h s) ≡ true
back_none_f000_e000 h s a b c d = rw (none_f000_e000 h s a b c d) refl

back_bl_15 : (h s : ℕ) → 0xf000 ≤ h → h < 0xf800 → 0xf000 ≤ s → s < 0x10000 → gives_back h s (decode_result h s) ≡ true
back_bl_15 h s a b c d = rw (bl_15 h s a b c d) (to_test (encode_result (Bl (bl_offset h s))) h s (long_back 0xd000 h s a b (omega arith)))

back_special : (h s : ℕ) → 0xf000 ≤ h → h < 0xf800 → 0x8000 ≤ s → s < 0x9000 → gives_back h s (decode_result h s) ≡ true
back_special h s a b c d = grind (arith, back_none_f000_8000 h s, back_none_f380_8000 h s, back_msr h s, back_none_f380_8900 h s, back_none_f390_8000 h s, back_none_f3bf_8000 h s, back_dsb h s, back_dmb h s, back_isb h s, back_none_f3bf_8f70 h s, back_none_f3c0_8000 h s, back_mrs h s, back_none_f3f0_8000 h s)

back_pairs : (h s : ℕ) → 0xf000 ≤ h → h < 0xf800 → s < 0x10000 → gives_back h s (decode_result h s) ≡ true
back_pairs h s a b c = grind (arith, back_special h s, back_none_f000_0000 h s, back_none_f000_9000 h s, back_bl_13 h s, back_none_f000_e000 h s, back_bl_15 h s)

-- ---- the second profile's own rows

-- each of the n halfwords from low up is encoded back from the CBZ that it is
abbrev cbz_back : ℕ → ℕ → ℕ → Bool
cbz_back low n s = all_from (λ h. gives_back h s (Is (Cbz (field h 11 1 == 1) (field h 0 3) (pos (cbz_offset h))) 2)) n low

cbz_back_in : (low n s : ℕ) → cbz_back low n s ≡ true → (h : ℕ) → low ≤ h → h < low + n
    → late_of h s ≡ Is (Cbz (field h 11 1 == 1) (field h 0 3) (pos (cbz_offset h))) 2 → gives_back h s (late_of h s) ≡ true
cbz_back_in low n s t h a b e =
    subst (λ d. gives_back h s d ≡ true) (sym e) (all_from_at (λ h. gives_back h s (Is (Cbz (field h 11 1 == 1) (field h 0 3) (pos (cbz_offset h))) 2)) n low t h a b)

b_wide_back : (h s : ℕ) → 0xf000 ≤ h → h < 0xf800 → 0x9000 + field s 13 1 * 2 ^ 13 + field s 11 1 * 2 ^ 11 + field s 0 11 ≡ s
    → late_of h s ≡ Is (BWide (bl_offset h s)) 4 → gives_back h s (late_of h s) ≡ true
b_wide_back h s a b c e =
    subst (λ d. gives_back h s d ≡ true) (sym e) (to_test (encode_result (BWide (bl_offset h s))) h s (long_back 0x9000 h s a b c))

none_back : (h s : ℕ) → late_of h s ≡ Undefined → gives_back h s (late_of h s) ≡ true
none_back h s e = subst (λ d. gives_back h s d ≡ true) (sym e) refl

refused_back : (h s : ℕ) → late_of h s ≡ Unpredictable → gives_back h s (late_of h s) ≡ true
refused_back h s e = subst (λ d. gives_back h s d ≡ true) (sym e) refl

sixteen_there : (general large : Bool) (base d imm a b : ℕ) → general ≡ true → large ≡ false → base + imm / 2 ^ 11 % 2 * 2 ^ 10 + imm / 2 ^ 12 ≡ a
    → imm / 2 ^ 8 % 2 ^ 3 * 2 ^ 12 + d * 2 ^ 8 + imm % 2 ^ 8 ≡ b
    → refused_if (not general) RegisterRange (refused_if large ImmediateRange (Ok (sixteen_code base d imm))) ≡ Ok (Pair a b)
sixteen_there true false base d imm a b g l p q = rw (p, q) refl
sixteen_there true true base d imm a b g l p q = cc
sixteen_there false large base d imm a b g l p q = cc

is_general_test : (r : ℕ) → IsGeneral r → is_general r ≡ true
is_general_test r g = grind (arith, nat_tests, g.0, g.1)

not_above : (k n : ℕ) → n ≤ k → nat_lt k n ≡ false
not_above k n l = grind (arith, nat_tests)

-- a register of four bits is sp, pc or general
register_kind : (r : ℕ) → r < 16 → IsGeneral r ⊎ ((r ≡ 13) ⊎ (r ≡ 15))
register_kind r h = elim (cases_lt r 13) [
  | inl low ↦ inl (omega arith, λ e. omega arith)
  | inr a ↦ elim (cases_lt 13 r) [
    | inl b ↦ elim (cases_lt r 15) [
      | inl c ↦ inl (c, λ e. omega arith)
      | inr d ↦ inr (inr (omega arith))
    ]
    | inr b ↦ inr (inl (omega arith))
  ]
]

mov_w_back : (h s : ℕ) → 0xf240 ≤ h → h < 0xf650 → field h 0 10 / 2 ^ 4 ≡ 0x24 → s < 0x8000 → gives_back h s (late_of h s) ≡ true
mov_w_back h s a b c d = elim (register_kind (wide_d s) (omega arith)) [
  | inl g ↦ subst (λ e. gives_back h s e ≡ true) (sym (mov_w h s a b c d g))
      (to_test (encode_result (MovW (wide_d s) (wide_imm h s))) h s
      (sixteen_there (is_general (wide_d s)) (nat_lt 65535 (wide_imm h s)) 0xf240 (wide_d s) (wide_imm h s) h s (is_general_test (wide_d s) g) (not_above 65535 (wide_imm h s) (omega arith)) (omega arith) (omega arith)))
  | inr n ↦ refused_back h s (mov_w_none h s a b c d n)
]

mov_t_back : (h s : ℕ) → 0xf2c0 ≤ h → h < 0xf6d0 → field h 0 10 / 2 ^ 4 ≡ 0x2c → s < 0x8000 → gives_back h s (late_of h s) ≡ true
mov_t_back h s a b c d = elim (register_kind (wide_d s) (omega arith)) [
  | inl g ↦ subst (λ e. gives_back h s e ≡ true) (sym (mov_t h s a b c d g))
      (to_test (encode_result (MovT (wide_d s) (wide_imm h s))) h s
      (sixteen_there (is_general (wide_d s)) (nat_lt 65535 (wide_imm h s)) 0xf2c0 (wide_d s) (wide_imm h s) h s (is_general_test (wide_d s) g) (not_above 65535 (wide_imm h s) (omega arith)) (omega arith) (omega arith)))
  | inr n ↦ refused_back h s (mov_t_none h s a b c d n)
]

div_there : (one two three : Bool) (a b c d : ℕ) → one ≡ true → two ≡ true → three ≡ true → a ≡ c → b ≡ d
    → refused_if (not (one && two && three)) RegisterRange (Ok (Pair a b)) ≡ Ok (Pair c d)
div_there true true true a b c d e f g p q = rw (p, q) refl
div_there true true false a b c d e f g p q = cc
div_there true false three a b c d e f g p q = cc
div_there false two three a b c d e f g p q = cc

sdiv_ones : (h s : ℕ) → 0xfb90 ≤ h → h < 0xfba0 → 0xf000 ≤ s → s < 0x10000 → field s 4 4 ≡ 15
    → IsGeneral (field h 0 4) ⊎ ((field h 0 4 ≡ 13) ⊎ (field h 0 4 ≡ 15))
    → IsGeneral (field s 8 4) ⊎ ((field s 8 4 ≡ 13) ⊎ (field s 8 4 ≡ 15)) → IsGeneral (field s 0 4) ⊎ ((field s 0 4 ≡ 13) ⊎ (field s 0 4 ≡ 15)) → gives_back h s (late_of h s) ≡ true
sdiv_ones h s a b c d e (inl n) (inl r) (inl m) =
    subst (λ x. gives_back h s x ≡ true) (sym (sdiv h s a b c d e n r m))
    (to_test (encode_result (Div true (field s 8 4) (field h 0 4) (field s 0 4))) h s
    (div_there (is_general (field s 8 4)) (is_general (field h 0 4)) (is_general (field s 0 4)) (0xfb90 + 0 * 2 ^ 5 + field h 0 4) (0xf0f0 + field s 8 4 * 2 ^ 8 + field s 0 4) h s
    (is_general_test (field s 8 4) r) (is_general_test (field h 0 4) n) (is_general_test (field s 0 4) m) (omega arith) (omega arith)))
sdiv_ones h s a b c d e (inl n) (inl r) (inr out) = refused_back h s (sdiv_no_m h s a b c d e n r out)
sdiv_ones h s a b c d e (inl n) (inr out) m = refused_back h s (sdiv_no_d h s a b c d e n out)
sdiv_ones h s a b c d e (inr out) r m = refused_back h s (sdiv_no_n h s a b c d e out)

sdiv_back : (h s : ℕ) → 0xfb90 ≤ h → h < 0xfba0 → s < 0x10000 → gives_back h s (late_of h s) ≡ true
sdiv_back h s a b c = elim (cases_lt s 0xf000) [
  | inl low ↦ none_back h s (sdiv_none h s a b low)
  | inr d ↦ elim (cases_lt (field s 4 4) 15) [
    | inl third ↦ none_back h s (sdiv_none_third h s a b d c third)
    | inr third ↦ sdiv_ones h s a b d c (omega arith) (register_kind (field h 0 4) (omega arith)) (register_kind (field s 8 4) (omega arith)) (register_kind (field s 0 4) (omega arith))
  ]
]

udiv_ones : (h s : ℕ) → 0xfbb0 ≤ h → h < 0xfbc0 → 0xf000 ≤ s → s < 0x10000 → field s 4 4 ≡ 15
    → IsGeneral (field h 0 4) ⊎ ((field h 0 4 ≡ 13) ⊎ (field h 0 4 ≡ 15))
    → IsGeneral (field s 8 4) ⊎ ((field s 8 4 ≡ 13) ⊎ (field s 8 4 ≡ 15)) → IsGeneral (field s 0 4) ⊎ ((field s 0 4 ≡ 13) ⊎ (field s 0 4 ≡ 15)) → gives_back h s (late_of h s) ≡ true
udiv_ones h s a b c d e (inl n) (inl r) (inl m) =
    subst (λ x. gives_back h s x ≡ true) (sym (udiv h s a b c d e n r m))
    (to_test (encode_result (Div false (field s 8 4) (field h 0 4) (field s 0 4))) h s
    (div_there (is_general (field s 8 4)) (is_general (field h 0 4)) (is_general (field s 0 4)) (0xfb90 + 1 * 2 ^ 5 + field h 0 4) (0xf0f0 + field s 8 4 * 2 ^ 8 + field s 0 4) h s
    (is_general_test (field s 8 4) r) (is_general_test (field h 0 4) n) (is_general_test (field s 0 4) m) (omega arith) (omega arith)))
udiv_ones h s a b c d e (inl n) (inl r) (inr out) = refused_back h s (udiv_no_m h s a b c d e n r out)
udiv_ones h s a b c d e (inl n) (inr out) m = refused_back h s (udiv_no_d h s a b c d e n out)
udiv_ones h s a b c d e (inr out) r m = refused_back h s (udiv_no_n h s a b c d e out)

udiv_back : (h s : ℕ) → 0xfbb0 ≤ h → h < 0xfbc0 → s < 0x10000 → gives_back h s (late_of h s) ≡ true
udiv_back h s a b c = elim (cases_lt s 0xf000) [
  | inl low ↦ none_back h s (udiv_none h s a b low)
  | inr d ↦ elim (cases_lt (field s 4 4) 15) [
    | inl third ↦ none_back h s (udiv_none_third h s a b d c third)
    | inr third ↦ udiv_ones h s a b d c (omega arith) (register_kind (field h 0 4) (omega arith)) (register_kind (field s 8 4) (omega arith)) (register_kind (field s 0 4) (omega arith))
  ]
]

late_back-low : (f s : ℕ) → f < 0xf000 → gives_back f s (late_of f s) ≡ true
late_back-low f s h = elim (cases_lt f 0xb100) [
  | inl a ↦ none_back f s (none_below f s a)
  | inr a ↦ elim (cases_lt f 0xb200) [
    | inl b ↦ cbz_back_in 0xb100 0x100 s refl f a b (cbz_b1 f s a b)
    | inr b ↦ elim (cases_lt f 0xb300) [
      | inl c ↦ none_back f s (none_b2 f s b c)
      | inr c ↦ elim (cases_lt f 0xb400) [
        | inl d ↦ cbz_back_in 0xb300 0x100 s refl f c d (cbz_b3 f s c d)
        | inr d ↦ elim (cases_lt f 0xb900) [
          | inl e ↦ none_back f s (none_b4 f s d e)
          | inr e ↦ elim (cases_lt f 0xba00) [
            | inl g ↦ cbz_back_in 0xb900 0x100 s refl f e g (cbnz_b9 f s e g)
            | inr g ↦ elim (cases_lt f 0xbb00) [
              | inl i ↦ none_back f s (none_ba f s g i)
              | inr i ↦ elim (cases_lt f 0xbc00) [
                | inl j ↦ cbz_back_in 0xbb00 0x100 s refl f i j (cbnz_bb f s i j)
                | inr j ↦ none_back f s (none_bc f s j h)
              ]
            ]
          ]
        ]
      ]
    ]
  ]
]

late_back-pairs : (f s : ℕ) → 0xf000 ≤ f → f < 0xf800 → s < 0x10000 → gives_back f s (late_of f s) ≡ true
late_back-pairs f s a b c = elim (cases_lt s 0x8000) [
  | inl d ↦ elim (cases_lt f 0xf240) [
    | inl e ↦ none_back f s (none_f0 f s a e d)
    | inr e ↦ elim (cases_lt f 0xf250) [
      | inl g ↦ mov_w_back f s e (omega arith) (omega arith) d
      | inr g ↦ elim (cases_lt f 0xf2c0) [
        | inl h ↦ none_back f s (none_f25 f s g h d)
        | inr h ↦ elim (cases_lt f 0xf2d0) [
          | inl i ↦ mov_t_back f s h (omega arith) (omega arith) d
          | inr i ↦ elim (cases_lt f 0xf640) [
            | inl j ↦ none_back f s (none_f2d f s i j d)
            | inr j ↦ elim (cases_lt f 0xf650) [
              | inl k ↦ mov_w_back f s (omega arith) k (omega arith) d
              | inr k ↦ elim (cases_lt f 0xf6c0) [
                | inl l ↦ none_back f s (none_f65 f s k l d)
                | inr l ↦ elim (cases_lt f 0xf6d0) [
                  | inl m ↦ mov_t_back f s (omega arith) m (omega arith) d
                  | inr m ↦ none_back f s (none_f6d f s m b d)
                ]
              ]
            ]
          ]
        ]
      ]
    ]
  ]
  | inr d ↦ elim (cases_lt s 0x9000) [
    | inl e ↦ none_back f s (none_8 f s a b d e)
    | inr e ↦ elim (cases_lt s 0xa000) [
      | inl g ↦ b_wide_back f s a b (omega arith) (b_wide_9 f s a b e g)
      | inr g ↦ elim (cases_lt s 0xb000) [
        | inl h ↦ none_back f s (none_a f s a b g h)
        | inr h ↦ elim (cases_lt s 0xc000) [
          | inl i ↦ b_wide_back f s a b (omega arith) (b_wide_b f s a b h i)
          | inr i ↦ none_back f s (none_c f s a b i c)
        ]
      ]
    ]
  ]
]

late_back-high : (f s : ℕ) → 0xf800 ≤ f → f < 0x10000 → s < 0x10000 → gives_back f s (late_of f s) ≡ true
late_back-high f s a b c = elim (cases_lt f 0xfb90) [
  | inl d ↦ none_back f s (none_f8 f s a d)
  | inr d ↦ elim (cases_lt f 0xfba0) [
    | inl e ↦ sdiv_back f s d e c
    | inr e ↦ elim (cases_lt f 0xfbb0) [
      | inl g ↦ none_back f s (none_fba f s e g)
      | inr g ↦ elim (cases_lt f 0xfbc0) [
        | inl h ↦ udiv_back f s g h c
        | inr h ↦ none_back f s (none_fbc f s h b)
      ]
    ]
  ]
]

late_back : (f s : ℕ) → f < 0x10000 → s < 0x10000 → gives_back f s (late_of f s) ≡ true
late_back f s a b = elim (cases_lt f 0xf000) [
  | inl c ↦ late_back-low f s c
  | inr c ↦ elim (cases_lt f 0xf800) [
    | inl d ↦ late_back-pairs f s c d b
    | inr d ↦ late_back-high f s d a b
  ]
]

-- the code of what a pair decodes to is that pair
first_back : (i : Instr) (first second size : ℕ) → first < 2 ^ 16 → second < 2 ^ 16 → decode_result first second ≡ Is i size
    → encode_result i ≡ Ok (code_at first second size)
first_back i first second size a b e =
    let all : gives_back first second (decode_result first second) ≡ true = grind (arith, back_low first second, back_high first second, back_pairs first second) in
    let one : gives_back first second (Is i size) ≡ true = rw e at all in
    from_test (encode_result i) (code_at first second size) one

pub given_back : (i : Instr) (first second size : ℕ) → first < 2 ^ 16 → second < 2 ^ 16 → late_decode_result first second ≡ Is i size
    → encode_result i ≡ Ok (code_at first second size)
given_back i first second size a b e = elim (adds_to_undefined first second) [
  | inl same ↦ first_back i first second size a b (sym same ∙ e)
  | inr none ↦
      let there : late_of first second ≡ Is i size = sym (added first second none) ∙ e in
      from_test (encode_result i) (code_at first second size) (subst (λ d. gives_back first second d ≡ true) there (late_back first second a b))
]

-- what is refused is decoded from nothing
pub refused_is_no_code : (i : Instr) (fault : EncodeFault) (first second size : ℕ) → encode_result i ≡ Err fault → first < 2 ^ 16 → second < 2 ^ 16
    → late_decode_result first second ≡ Is i size → ⊥
refused_is_no_code i fault first second size f a b e = let both = sym f ∙ given_back i first second size a b e in cc
