-- The codes of branches decode to their offsets.
use Rattle.std.proofs.Common.{◌≡◌, ℕ, suc, ◌+◌, ◌-◌, ◌*◌, ◌/◌, ◌%◌, ◌^◌, ◌<◌, Bool, true, false, cond, not, ◌||◌, ◌==◌, refl, sym, ◌∙◌, arith, nat_lt, nat_le, inl, inr, ℤ, pos, negsuc, Result, Ok, Err}
use Rattle.std.specs.Int.{from_bool}
use Rattle.std.proofs.lemmas.Bool.Decides.{nat_tests}
use Rattle.std.proofs.lemmas.Int.{ints}
use Rattle.std.proofs.lemmas.Bool.{cases_lt, true≢false}
use Rattle.thumb_isa.specs.declared.instr.Instr.TheVariants.{BCond, B, Bl}
use Rattle.thumb_isa.specs.declared.instr.Instr.{Instr}
use Rattle.thumb_isa.specs.declared.instr.Decoded.TheVariants.{Is}
use Rattle.thumb_isa.specs.declared.profile.Profile.TheVariants.{One, Two}
use Rattle.thumb_isa.specs.Laws.{is_late}
use Rattle.thumb_isa.specs.Fields.{field, signed_value, signed_half}
use Rattle.thumb_isa.specs.Rows.{decode_result}
use Rattle.thumb_isa.proofs.Table.{b, b_cond_low, b_cond_mid, b_cond_high}
use Rattle.thumb_isa.proofs.BothProfiles.{is_kept}
use Rattle.thumb_encode.specs.Codes.{IsCodeIn, encode_result, refused_if, with_field, target_field, bl_code}
use Rattle.thumb_encode.specs.declared.code.Code.{Code}
use Rattle.thumb_encode.specs.declared.code.Code.TheVariants as code
use Rattle.thumb_isa.specs.declared.encode_fault.EncodeFault.{EncodeFault}
use Rattle.thumb_isa.specs.declared.encode_fault.EncodeFault.TheVariants.{RegisterRange, TargetRange}
use Rattle.thumb_encode.proofs.Long.{bl_code as bl_decodes}
use Rattle.eh_link.specs.EquationLaw.{IsCodeInEach}

-- what the first profile decodes, the second does too
pub kept_in_each : (c : Code) (i : Instr) → IsCodeIn One c i → IsCodeInEach c i
kept_in_each (code.Half first) i m p is = λ second. is_kept p first second i 2 (m second)
kept_in_each (code.Pair first second) i m p is = is_kept p first second i 4 m

-- an instruction of the second profile alone
pub late_in_each : (c : Code) (i : Instr) → is_late i ≡ true → IsCodeIn Two c i → IsCodeInEach c i
late_in_each c i late m One is = absurd (true≢false (sym late ∙ is))
late_in_each c i late m Two is = m

-- the field of an offset gives the offset back
pub record IsTarget (half : ℕ) (off : ℤ) (t : ℕ) : Type 0 where
  pub below : t < half
  pub back : signed_half half (t * 2) ≡ off

accepted : (holds : Bool) (value t : ℕ) → refused_if holds TargetRange (Ok value) ≡ Ok t → (holds ≡ false) × (value ≡ t)
accepted true value t e = absurd cc
accepted false value t e = (refl, cc)

neither : (p q : Bool) → (p || not q) ≡ false → (p ≡ false) × (q ≡ true)
neither true q e = absurd cc
neither false true e = (refl, refl)
neither false false e = absurd cc

pub target_back : (half : ℕ) (off : ℤ) (t : ℕ) → target_field half off ≡ Ok t → IsTarget half off t
target_back half (pos n) t e =
    let ok = accepted (nat_le half n || not (n % 2 == 0)) (n / 2) t e in
    let two = neither (nat_le half n) (n % 2 == 0) ok.0 in
    let low : n < half = grind (arith, nat_tests) in
    let even : n % 2 ≡ 0 = grind (arith, nat_tests) in
    record { below = omega (arith, ok.1); back = grind (arith, nat_tests, ints, ok.1) }
target_back half (negsuc n) t e =
    let ok = accepted (nat_le half n || not (n % 2 == 1)) (half - suc (n / 2)) t e in
    let two = neither (nat_le half n) (n % 2 == 1) ok.0 in
    let low : n < half = grind (arith, nat_tests) in
    let odd : n % 2 ≡ 1 = grind (arith, nat_tests) in
    record { below = omega (arith, ok.1); back = grind (arith, nat_tests, ints, ok.1) }

pub field_there : (r : Result ℕ EncodeFault) (f : ℕ → Code) (c : Code) → with_field r f ≡ Ok c → (t : ℕ) × (r ≡ Ok t) × (f t ≡ c)
field_there (Ok t) f c e = (t, refl, cc)
field_there (Err fault) f c e = absurd cc

bl_first : (off : ℤ) (c : Code) → encode_result (Bl off) ≡ Ok c → IsCodeIn One c (Bl off)
bl_first off c e =
    let there = field_there (target_field (2 ^ 24) off) bl_code c e in
    let target = target_back (2 ^ 24) off there.0 there.1 in
    rw (← there.2) (bl_decodes there.0 _ _ _ _ off target.below refl refl refl refl target.back)

pub bl_means : (off : ℤ) (c : Code) → encode_result (Bl off) ≡ Ok c → IsCodeInEach c (Bl off)
bl_means off c e = kept_in_each c (Bl off) (bl_first off c e)

b_at : (t second : ℕ) (off : ℤ) → IsTarget (2 ^ 11) off t → decode_result (0xe000 + t) second ≡ Is (B off) 2
b_at t second off target =
    let is : field (0xe000 + t) 0 11 ≡ t = omega (arith, target.below) in
    b (0xe000 + t) second (omega arith) (omega (arith, target.below)) ∙ rw (is, ← target.back) refl

b_first : (off : ℤ) (c : Code) → encode_result (B off) ≡ Ok c → IsCodeIn One c (B off)
b_first off c e =
    let there = field_there (target_field (2 ^ 11) off) (λ t. code.Half (0xe000 + t)) c e in
    let target = target_back (2 ^ 11) off there.0 there.1 in
    rw (← there.2) (λ second. b_at there.0 second off target)

pub b_means : (off : ℤ) (c : Code) → encode_result (B off) ≡ Ok c → IsCodeInEach c (B off)
b_means off c e = kept_in_each c (B off) (b_first off c e)

pub named : (holds : Bool) (later : Result Code EncodeFault) (c : Code) → refused_if holds RegisterRange later ≡ Ok c → (holds ≡ false) × (later ≡ Ok c)
named true later c e = absurd cc
named false later c e = (refl, e)

b_cond_at : (cond t second : ℕ) (off : ℤ) → cond < 14 → IsTarget (2 ^ 8) off t → decode_result (0xd000 + cond * 2 ^ 8 + t) second ≡ Is (BCond cond off) 2
b_cond_at cond t second off low target =
    let below = target.below in
    let half = 0xd000 + cond * 2 ^ 8 + t in
    let is : field half 0 8 ≡ t = omega arith in
    let condition : field half 8 4 ≡ cond = omega arith in
    let means : Is (BCond (field half 8 4) (signed_value 9 (field half 0 8 * 2))) 2 ≡ Is (BCond cond off) 2 = rw (is, condition, ← target.back) refl in
    elim (cases_lt half 0xd800) [
      | inl one ↦ b_cond_low half second (omega arith) one ∙ means
      | inr more ↦ elim (cases_lt half 0xdc00) [
        | inl two ↦ b_cond_mid half second more two ∙ means
        | inr three ↦ b_cond_high half second three (omega arith) ∙ means
      ]
    ]

b_cond_first : (cond : ℕ) (off : ℤ) (c : Code) → encode_result (BCond cond off) ≡ Ok c → IsCodeIn One c (BCond cond off)
b_cond_first cond off c e =
    let known = named (nat_lt 13 cond) (with_field (target_field (2 ^ 8) off) (λ t. code.Half (0xd000 + cond * 2 ^ 8 + t))) c e in
    let low : cond < 14 = grind (arith, nat_tests, known.0) in
    let there = field_there (target_field (2 ^ 8) off) (λ t. code.Half (0xd000 + cond * 2 ^ 8 + t)) c known.1 in
    let target = target_back (2 ^ 8) off there.0 there.1 in
    rw (← there.2) (λ second. b_cond_at cond there.0 second off low target)

pub b_cond_means : (cond : ℕ) (off : ℤ) (c : Code) → encode_result (BCond cond off) ≡ Ok c → IsCodeInEach c (BCond cond off)
b_cond_means cond off c e = kept_in_each c (BCond cond off) (b_cond_first cond off c e)

-- the halfwords of a code are halfwords
abbrev pub IsSmall : Code → Type 0
IsSmall (code.Half first) = first < 2 ^ 16
IsSmall (code.Pair first second) = (first < 2 ^ 16) × (second < 2 ^ 16)

bit_below : (b : Bool) → from_bool b < 2
bit_below true = omega arith
bit_below false = omega arith

bl_small : (t : ℕ) → t < 2 ^ 24 → IsSmall (bl_code t)
bl_small t h =
    let one = bit_below (t / 2 ^ 22 % 2 == t / 2 ^ 23) in
    let two = bit_below (t / 2 ^ 21 % 2 == t / 2 ^ 23) in
    (omega arith, omega arith)

pub bl_is_small : (off : ℤ) (c : Code) → encode_result (Bl off) ≡ Ok c → IsSmall c
bl_is_small off c e =
    let there = field_there (target_field (2 ^ 24) off) bl_code c e in
    let target = target_back (2 ^ 24) off there.0 there.1 in
    rw (← there.2) (bl_small there.0 target.below)

pub b_is_small : (off : ℤ) (c : Code) → encode_result (B off) ≡ Ok c → IsSmall c
b_is_small off c e =
    let there = field_there (target_field (2 ^ 11) off) (λ t. code.Half (0xe000 + t)) c e in
    let target = target_back (2 ^ 11) off there.0 there.1 in
    rw (← there.2) (omega (arith, target.below))

pub b_cond_is_small : (cond : ℕ) (off : ℤ) (c : Code) → encode_result (BCond cond off) ≡ Ok c → IsSmall c
b_cond_is_small cond off c e =
    let known = named (nat_lt 13 cond) (with_field (target_field (2 ^ 8) off) (λ t. code.Half (0xd000 + cond * 2 ^ 8 + t))) c e in
    let low : cond < 14 = grind (arith, nat_tests, known.0) in
    let there = field_there (target_field (2 ^ 8) off) (λ t. code.Half (0xd000 + cond * 2 ^ 8 + t)) c known.1 in
    let target = target_back (2 ^ 8) off there.0 there.1 in
    rw (← there.2) (omega (arith, target.below))
