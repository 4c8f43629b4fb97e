-- Codes of the instructions that the second profile has besides.
use Rattle.std.proofs.Common.{◌≡◌, ℕ, ◌+◌, ◌*◌, ◌/◌, ◌%◌, ◌^◌, ◌<◌, ◌≤◌, Bool, true, false, not, ◌&&◌, ◌==◌, nat_lt, refl, arith, sym, ap, ◌∙◌, ℤ, pos, inl, inr, Result, Ok, Err, IfOk}
use Rattle.std.proofs.lemmas.Bool.{cases_lt}
use Rattle.std.proofs.lemmas.Bool.Decides.{nat_tests}
use Rattle.std.specs.Int.{from_bool}
use Rattle.thumb_isa.specs.declared.instr.Instr.{Instr}
use Rattle.thumb_isa.specs.declared.instr.Instr.TheVariants.{Cbz, MovW, MovT, Div}
use Rattle.thumb_isa.specs.declared.instr.Decoded.TheVariants.{Is}
use Rattle.thumb_isa.specs.declared.profile.Profile.{Profile}
use Rattle.thumb_isa.specs.declared.profile.Profile.TheVariants.{One, Two}
use Rattle.thumb_isa.specs.Fields.{field}
use Rattle.thumb_isa.specs.Range.{IsGeneral}
use Rattle.thumb_isa.specs.Rows.{late_decode_result, cbz_offset, wide_d, wide_imm}
use Rattle.thumb_isa.specs.Laws.{late_of}
use Rattle.thumb_isa.proofs.BothProfiles.{is_kept}
use Rattle.thumb_isa.proofs.LateTable.{cbz_b1, cbz_b3, cbnz_b9, cbnz_bb, mov_w, mov_t, sdiv, udiv}
use Rattle.thumb_encode.specs.declared.code.Code.{Code}
use Rattle.thumb_encode.specs.declared.code.Code.TheVariants.{Half, Pair}
use Rattle.thumb_isa.specs.declared.encode_fault.EncodeFault.{EncodeFault}
use Rattle.thumb_encode.specs.Codes.{IsCodeIn, least_profile, is_general}
use Rattle.thumb_encode.proofs.LateMeans.{late_means}

-- what a code decodes to in one profile it decodes to in the second
in_second : (p : Profile) (code : Code) (i : Instr) → IsCodeIn p code i → IsCodeIn Two code i
in_second One (Half half) i h = λ second. is_kept Two half second i 2 (h second)
in_second One (Pair first second) i h = is_kept Two first second i 4 h
in_second Two code i h = h

pub ok_in_second : (r : Result Code EncodeFault) (i : Instr) → IfOk r (λ code. IsCodeIn (least_profile i) code i)
    → IfOk r (λ code. IsCodeIn Two code i)
ok_in_second (Ok code) i h = in_second (least_profile i) code i h
ok_in_second (Err fault) i h = tt

pub general : (r : ℕ) → is_general r ≡ true → IsGeneral r
general r t = (grind (arith, nat_tests), λ e. grind (arith, nat_tests))

cbz_at : (nonzero : Bool) (n t h s : ℕ) → n < 8 → t < 64 → h ≡ 0xb100 + from_bool nonzero * 2048 + t / 32 * 512 + t % 32 * 8 + n
    → late_of h s ≡ Is (Cbz (field h 11 1 == 1) (field h 0 3) (pos (cbz_offset h))) 2
cbz_at false n t h s low few is = elim (cases_lt t 32) [
  | inl near ↦ cbz_b1 h s (omega arith) (omega arith)
  | inr far ↦ cbz_b3 h s (omega arith) (omega arith)
]
cbz_at true n t h s low few is = elim (cases_lt t 32) [
  | inl near ↦ cbnz_b9 h s (omega arith) (omega arith)
  | inr far ↦ cbnz_bb h s (omega arith) (omega arith)
]

cbz_fields : (nonzero : Bool) (n t h : ℕ) → n < 8 → t < 64 → h ≡ 0xb100 + from_bool nonzero * 2048 + t / 32 * 512 + t % 32 * 8 + n
    → ((field h 11 1 == 1) ≡ nonzero) × (field h 0 3 ≡ n) × (cbz_offset h ≡ t * 2)
cbz_fields false n t h low few is =
    let b : field h 11 1 ≡ 0 = omega arith in
    (ap (λ x. x == 1) b, omega arith, omega arith)
cbz_fields true n t h low few is =
    let b : field h 11 1 ≡ 1 = omega arith in
    (ap (λ x. x == 1) b, omega arith, omega arith)

from_bool_below : (b : Bool) → from_bool b < 2
from_bool_below true = omega arith
from_bool_below false = omega arith

pub cbz_code : (nonzero : Bool) (n t h s kind : ℕ) (off : ℤ) → n < 8 → t < 64 → pos (t * 2) ≡ off → kind ≡ from_bool nonzero
    → h ≡ 0xb100 + kind * 2048 % 2 ^ 16 + t / 32 * 512 + t % 32 * 8 + n → late_decode_result h s ≡ Is (Cbz nonzero n off) 2
cbz_code nonzero n t h s kind off low few target k is =
    let small : kind < 2 = rw k (from_bool_below nonzero) in
    let whole : kind * 2048 % 2 ^ 16 ≡ from_bool nonzero * 2048 = omega arith in
    let at : h ≡ 0xb100 + from_bool nonzero * 2048 + t / 32 * 512 + t % 32 * 8 + n = is ∙ ap (λ x. 0xb100 + x + t / 32 * 512 + t % 32 * 8 + n) whole in
    let fields = cbz_fields nonzero n t h low few at in
    late_means h s (Cbz nonzero n off) 2 (cbz_at nonzero n t h s low few at ∙ rw (fields.0, fields.1, fields.2, target) refl)

pub mov_w_code : (d imm h s : ℕ) → IsGeneral d → imm < 2 ^ 16 → h ≡ 0xf240 + imm / 2048 % 2 * 1024 + imm / 4096
    → s ≡ imm / 256 % 8 * 4096 + d * 256 + imm % 256
    → late_decode_result h s ≡ Is (MovW d imm) 4
mov_w_code d imm h s g small a b =
    let low = g.0 in
    let register : wide_d s ≡ d = omega arith in
    let number : wide_imm h s ≡ imm = omega arith in
    late_means h s (MovW d imm) 4 (mov_w h s (omega arith) (omega arith) (omega arith) (omega arith) (rw register g) ∙ rw (register, number) refl)

pub mov_t_code : (d imm h s : ℕ) → IsGeneral d → imm < 2 ^ 16 → h ≡ 0xf2c0 + imm / 2048 % 2 * 1024 + imm / 4096
    → s ≡ imm / 256 % 8 * 4096 + d * 256 + imm % 256
    → late_decode_result h s ≡ Is (MovT d imm) 4
mov_t_code d imm h s g small a b =
    let low = g.0 in
    let register : wide_d s ≡ d = omega arith in
    let number : wide_imm h s ≡ imm = omega arith in
    late_means h s (MovT d imm) 4 (mov_t h s (omega arith) (omega arith) (omega arith) (omega arith) (rw register g) ∙ rw (register, number) refl)

div_at : (signed : Bool) (d n m h s : ℕ) → IsGeneral d → IsGeneral n → IsGeneral m → h ≡ 0xfb90 + from_bool (not signed) * 32 + n
    → s ≡ 0xf0f0 + d * 256 + m
    → late_of h s ≡ Is (Div signed d n m) 4
div_at true d n m h s a b c e f =
    let first : field h 0 4 ≡ n = omega (arith, b.0) in
    let to : field s 8 4 ≡ d = omega (arith, a.0, c.0) in
    let by : field s 0 4 ≡ m = omega (arith, a.0, c.0) in
    sdiv h s (omega (arith, b.0)) (omega (arith, b.0)) (omega (arith, a.0, c.0)) (omega (arith, a.0, c.0)) (omega (arith, a.0, c.0)) (rw first b) (rw to a) (rw by c) ∙ rw (first, to, by) refl
div_at false d n m h s a b c e f =
    let first : field h 0 4 ≡ n = omega (arith, b.0) in
    let to : field s 8 4 ≡ d = omega (arith, a.0, c.0) in
    let by : field s 0 4 ≡ m = omega (arith, a.0, c.0) in
    udiv h s (omega (arith, b.0)) (omega (arith, b.0)) (omega (arith, a.0, c.0)) (omega (arith, a.0, c.0)) (omega (arith, a.0, c.0)) (rw first b) (rw to a) (rw by c) ∙ rw (first, to, by) refl

pub div_code : (signed : Bool) (d n m h s kind : ℕ) → IsGeneral d → IsGeneral n → IsGeneral m → kind ≡ from_bool (not signed)
    → h ≡ 0xfb90 + kind * 32 % 2 ^ 16 + n → s ≡ 0xf0f0 + d * 256 + m
    → late_decode_result h s ≡ Is (Div signed d n m) 4
div_code signed d n m h s kind a b c k e f =
    let small : kind < 2 = rw k (from_bool_below (not signed)) in
    let whole : kind * 32 % 2 ^ 16 ≡ from_bool (not signed) * 32 = omega arith in
    late_means h s (Div signed d n m) 4 (div_at signed d n m h s a b c (e ∙ ap (λ x. 0xfb90 + x + n) whole) f)
