-- The codes of literal instructions, of `b.w`, `cbz` and `cbnz` decode to them, and codes stand where their bytes do.
use Rattle.std.proofs.Common.{◌≡◌, ℕ, ◌+◌, ◌-◌, ◌*◌, ◌/◌, ◌%◌, ◌^◌, ◌≤◌, ◌<◌, ◌==◌, not, nat_lt, nat_le, Bool, true, false, ◌||◌, cond, List, ◌++◌, length, drop, ℤ, pos, negsuc, Some, None, Ok, Err, refl, sym, ap, ◌∙◌, arith, append_assoc, length-append, length-drop}
use Rattle.std.proofs.lemmas.Bool.Decides.{nat_tests}
use Rattle.std.specs.Int.{from_bool}
use Rattle.std.proofs.Math.Seq.{drop-append_seam}
use Rattle.std.proofs.lemmas.List.{drop-drop}
use Rattle.byteorder.specs.Endian.{little_number}
use Rattle.byteorder.specs.Numbers.{little_number-reads_back}
use Rattle.eh_word.specs.Words.{number_at}
use Rattle.thumb_isa.specs.Fields.{field}
use Rattle.thumb_isa.specs.declared.instr.Instr.{Instr}
use Rattle.thumb_isa.specs.declared.instr.Instr.TheVariants.{LdrLit, Adr, BWide, Cbz}
use Rattle.thumb_isa.specs.declared.profile.Profile.TheVariants.{Two}
use Rattle.thumb_isa.proofs.Table.{ldr_lit, adr}
use Rattle.thumb_encode.specs.Codes.{IsCodeIn, encode_result, refused_if, with_field, target_field, cbz_field, b_wide_code}
use Rattle.thumb_encode.proofs.Long.{b_wide_code as wide_decodes}
use Rattle.thumb_encode.proofs.LateForms.{cbz_code}
use Rattle.thumb_encode.specs.declared.code.Code.{Code}
use Rattle.thumb_encode.specs.declared.code.Code.TheVariants as code
use Rattle.thumb_isa.specs.declared.encode_fault.EncodeFault.TheVariants.{RegisterRange, ImmediateRange, ImmediateAlign, TargetRange}
use Rattle.asm_object.specs.Bytes.{half_bytes, code_bytes}
use Rattle.eh_link.specs.EquationLaw.{IsCodeInEach, CodeAt}
use Rattle.eh_link.proofs.Branches.{IsSmall, kept_in_each, late_in_each, field_there, target_back, named}

-- ---- `adr` and `ldr` of a literal

-- a register and a multiple of 4 in a halfword
pub record IsLiteral (opcode register n : ℕ) (c : Code) : Type 0 where
  pub low : register < 8
  pub near : n ≤ 1020
  pub fourth : n % 4 ≡ 0
  pub is : c ≡ code.Half (opcode + register * 2 ^ 8 + n / 4)

pub literal_is : (opcode register n : ℕ) (c : Code)
    → refused_if (nat_lt 7 register) RegisterRange
    (with_field (refused_if (nat_lt 1020 n) ImmediateRange (refused_if (not (n % 4 == 0)) ImmediateAlign (Ok (n / 4)))) (λ words. code.Half (opcode + register * 2 ^ 8 + words))) ≡ Ok c
    → IsLiteral opcode register n c
literal_is opcode register n c e = by (nat_lt 7 register) (nat_lt 1020 n) (n % 4 == 0) refl refl refl e
  where
    by : (high far whole : Bool) → nat_lt 7 register ≡ high → nat_lt 1020 n ≡ far → (n % 4 == 0) ≡ whole
        → refused_if high RegisterRange (with_field (refused_if far ImmediateRange (refused_if (not whole) ImmediateAlign (Ok (n / 4)))) (λ words. code.Half (opcode + register * 2 ^ 8 + words))) ≡ Ok c
        → IsLiteral opcode register n c
    by true far whole h f w e = absurd (cc)
    by false true whole h f w e = absurd (cc)
    by false false false h f w e = absurd (cc)
    by false false true h f w e = record { low = grind (arith, nat_tests); near = grind (arith, nat_tests); fourth = grind (arith, nat_tests); is = cc }

pub record Means (c : Code) (i : Instr) : Type 0 where
  pub means : IsCodeInEach c i
  pub small : IsSmall c

adr_half : (d n : ℕ) → d < 8 → n ≤ 1020 → n % 4 ≡ 0 → Means (code.Half (0xa000 + d * 2 ^ 8 + n / 4)) (Adr d (pos n))
adr_half d n low near fourth = record {
  means = kept_in_each (code.Half (0xa000 + d * 2 ^ 8 + n / 4)) (Adr d (pos n)) (λ second. adr (0xa000 + d * 2 ^ 8 + n / 4) second (omega arith) (omega (arith, low, near)) ∙ rw (register, number) refl);
  small = omega (arith, low, near);
}
  where
    register : field (0xa000 + d * 2 ^ 8 + n / 4) 8 3 ≡ d
    register = omega (arith, low, near)

    number : field (0xa000 + d * 2 ^ 8 + n / 4) 0 8 * 4 ≡ n
    number = omega (arith, low, near, fourth)

load_half : (t n : ℕ) → t < 8 → n ≤ 1020 → n % 4 ≡ 0 → Means (code.Half (0x4800 + t * 2 ^ 8 + n / 4)) (LdrLit t (pos n))
load_half t n low near fourth = record {
  means = kept_in_each (code.Half (0x4800 + t * 2 ^ 8 + n / 4)) (LdrLit t (pos n)) (λ second. ldr_lit (0x4800 + t * 2 ^ 8 + n / 4) second (omega arith) (omega (arith, low, near)) ∙ rw (register, number) refl);
  small = omega (arith, low, near);
}
  where
    register : field (0x4800 + t * 2 ^ 8 + n / 4) 8 3 ≡ t
    register = omega (arith, low, near)

    number : field (0x4800 + t * 2 ^ 8 + n / 4) 0 8 * 4 ≡ n
    number = omega (arith, low, near, fourth)

pub no_literal : (high : Bool) (f : ℕ → Code) (c : Code) → refused_if high RegisterRange (with_field (Err ImmediateRange) f) ≡ Ok c → ⊥
no_literal true f c e = cc
no_literal false f c e = cc

pub adr_means : (d : ℕ) (off : ℤ) (c : Code) → encode_result (Adr d off) ≡ Ok c → Means c (Adr d off)
adr_means d (pos n) c e =
    let is = literal_is 0xa000 d n c e in
    rw is.is (adr_half d n is.low is.near is.fourth)
adr_means d (negsuc n) c e = absurd (no_literal (nat_lt 7 d) (λ words. code.Half (0xa000 + d * 2 ^ 8 + words)) c e)

pub load_means : (t : ℕ) (off : ℤ) (c : Code) → encode_result (LdrLit t off) ≡ Ok c → Means c (LdrLit t off)
load_means t (pos n) c e =
    let is = literal_is 0x4800 t n c e in
    rw is.is (load_half t n is.low is.near is.fourth)
load_means t (negsuc n) c e = absurd (no_literal (nat_lt 7 t) (λ words. code.Half (0x4800 + t * 2 ^ 8 + words)) c e)

-- ---- `b.w`

wide_code : (off : ℤ) (c : Code) → encode_result (BWide off) ≡ Ok c → IsCodeIn Two c (BWide off)
wide_code off c e =
    let there = field_there (target_field (2 ^ 24) off) b_wide_code c e in
    let target = target_back (2 ^ 24) off there.0 there.1 in
    rw (← there.2) (wide_decodes there.0 _ _ _ _ off target.below refl refl refl refl target.back)

bit_below : (b : Bool) → from_bool b < 2
bit_below true = omega arith
bit_below false = omega arith

wide_small : (t : ℕ) → t < 2 ^ 24 → IsSmall (b_wide_code t)
wide_small t h =
    let one = bit_below (t / 2 ^ 22 % 2 == t / 2 ^ 23) in
    let two = bit_below (t / 2 ^ 21 % 2 == t / 2 ^ 23) in
    (omega arith, omega arith)

wide_is_small : (off : ℤ) (c : Code) → encode_result (BWide off) ≡ Ok c → IsSmall c
wide_is_small off c e =
    let there = field_there (target_field (2 ^ 24) off) b_wide_code c e in
    let target = target_back (2 ^ 24) off there.0 there.1 in
    rw (← there.2) (wide_small there.0 target.below)

pub wide_means : (off : ℤ) (c : Code) → encode_result (BWide off) ≡ Ok c → Means c (BWide off)
wide_means off c e = record { means = late_in_each c (BWide off) refl (wide_code off c e); small = wide_is_small off c e }

-- ---- `cbz` and `cbnz`

zero_half : (nonzero : Bool) (n t h : ℕ) (off : ℤ) → n < 8 → t < 64 → pos (t * 2) ≡ off → h ≡ 0xb100 + from_bool nonzero * 2 ^ 11 + t / 2 ^ 5 * 2 ^ 9 + t % 2 ^ 5 * 2 ^ 3 + n
    → Means (code.Half h) (Cbz nonzero n off)
zero_half nonzero n t h off low few back is = record {
  means = late_in_each (code.Half h) (Cbz nonzero n off) refl (λ second. cbz_code nonzero n t h second (from_bool nonzero) off low few back refl (is ∙ shifted nonzero));
  small = omega (arith, is, low, few, bit_below nonzero);
}
  where
    shifted : (b : Bool) → 0xb100 + from_bool b * 2 ^ 11 + t / 2 ^ 5 * 2 ^ 9 + t % 2 ^ 5 * 2 ^ 3 + n ≡ 0xb100 + from_bool b * 2048 % 2 ^ 16 + t / 32 * 512 + t % 32 * 8 + n
    shifted true = refl
    shifted false = refl

-- an even number below 128 as the field of an offset
record IsNear (off : ℤ) (t : ℕ) : Type 0 where
  below : t < 64
  back : pos (t * 2) ≡ off

near : (off : ℤ) (t : ℕ) → cbz_field off ≡ Ok t → IsNear off t
near (pos n) t e = by (nat_lt 126 n) (n % 2 == 0) refl refl e
  where
    by : (far even : Bool) → nat_lt 126 n ≡ far → (n % 2 == 0) ≡ even → refused_if (far || not even) TargetRange (Ok (n / 2)) ≡ Ok t → IsNear (pos n) t
    by true even f w e = absurd (cc)
    by false false f w e = absurd (cc)
    by false true f w e =
        let is : n / 2 ≡ t = cc in
        let low : n ≤ 126 = grind (arith, nat_tests) in
        let whole : n % 2 ≡ 0 = grind (arith, nat_tests) in
        record { below = omega (arith, is, low); back = ap pos (let same : t * 2 ≡ n = omega (arith, is, whole) in same) }
near (negsuc n) t e = absurd (cc)

pub zero_means : (nonzero : Bool) (n : ℕ) (off : ℤ) (c : Code) → encode_result (Cbz nonzero n off) ≡ Ok c → Means c (Cbz nonzero n off)
zero_means nonzero n off c e =
    let half : ℕ → Code = λ t. code.Half (0xb100 + from_bool nonzero * 2 ^ 11 + t / 2 ^ 5 * 2 ^ 9 + t % 2 ^ 5 * 2 ^ 3 + n) in
    let known = named (nat_lt 7 n) (with_field (cbz_field off) half) c e in
    let low : n < 8 = grind (arith, nat_tests, known.0) in
    let there = field_there (cbz_field off) half c known.1 in
    let close = near off there.0 there.1 in
    rw (← there.2) (zero_half nonzero n there.0 (0xb100 + from_bool nonzero * 2 ^ 11 + there.0 / 2 ^ 5 * 2 ^ 9 + there.0 % 2 ^ 5 * 2 ^ 3 + n) off low close.below close.back refl)

-- ---- codes in bytes

read_there : (n : ℕ) (bytes : List ℕ) (at x : ℕ) → at + n ≤ length bytes → little_number n (drop at bytes) ≡ x → number_at n bytes at ≡ Some x
unfolding number_at
read_there n bytes at x h e = by (nat_le (at + n) (length bytes)) refl
  where
    by : (b : Bool) → nat_le (at + n) (length bytes) ≡ b → cond b (Some (little_number n (drop at bytes))) None ≡ Some x
    by true t = ap Some e
    by false t = absurd (grind (arith, nat_tests))

-- a halfword stands at the front of what stands at a place
half_there : (bytes : List ℕ) (at x : ℕ) (after : List ℕ) → drop at bytes ≡ half_bytes x ++ after → x < 2 ^ 16 → number_at 2 bytes at ≡ Some x
half_there bytes at x after e h =
    read_there 2 bytes at x (within (length bytes) at (length (drop at bytes)) (length after) (length-drop at bytes) (ap length e ∙ length-append (half_bytes x) after))
    (ap (little_number 2) e ∙ little_number-reads_back 2 x after h)
  where
    within : (all at rest more : ℕ) → rest ≡ all - at → rest ≡ 2 + more → at + 2 ≤ all
    within all at rest more e f = omega (arith, e, f)

pub code_there : (c : Code) (bytes : List ℕ) (at : ℕ) (after : List ℕ) → drop at bytes ≡ code_bytes c ++ after → IsSmall c → CodeAt c bytes at
code_there (code.Half first) bytes at after e small = half_there bytes at first after e small
code_there (code.Pair first second) bytes at after e small =
    let split : drop at bytes ≡ half_bytes first ++ (half_bytes second ++ after) = e ∙ append_assoc (half_bytes first) (half_bytes second) after in
    let next : drop (at + 2) bytes ≡ half_bytes second ++ after =
    sym (drop-drop 2 at bytes) ∙ ap (drop 2) split ∙ drop-append_seam (half_bytes first) (half_bytes second ++ after) in
    (half_there bytes at first (half_bytes second ++ after) split small.0, half_there bytes (at + 2) second after next small.1)
