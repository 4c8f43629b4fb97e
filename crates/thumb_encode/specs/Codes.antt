-- Whether an instruction has a code, and which one.
use Rattle.std.specs.Prelude.{◌≡◌, ℕ, suc, ◌+◌, ◌-◌, ◌<◌, ◌*◌, ◌/◌, ◌%◌, ◌^◌, ℤ, pos, negsuc, Bool, not, ◌&&◌, ◌||◌, ◌==◌, nat_lt, nat_le, Result, Ok, Err, if◌then◌else◌}
use Rattle.std.specs.Int.{from_bool}
use Rattle.thumb_isa.specs.declared.instr.Instr.{Instr}
use Rattle.thumb_isa.specs.declared.instr.Instr.TheVariants.{ShiftImm, AddSubReg, AddSubImm3, Imm8, Alu, AddHigh, CmpHigh, MovHigh, Bx, Blx, LdrLit, MemReg, MemImm, MemSp, Adr, AddRdSp, AddSp, SubSp, Extend, Rev, Push, Pop, Hint, Stm, Ldm, BCond, Svc, B, Bl, Barrier, Cbz, BWide, MovW, MovT, Div}
use Rattle.thumb_isa.specs.declared.instr.Decoded.TheVariants.{Is}
use Rattle.thumb_isa.specs.Fields.{field}
use Rattle.thumb_isa.specs.declared.profile.Profile.{Profile}
use Rattle.thumb_isa.specs.declared.profile.Profile.TheVariants.{One, Two}
use Rattle.thumb_isa.specs.Rows.{decode_result_for}
use Rattle.thumb_isa.specs.Laws.{is_late}
use Rattle.thumb_encode.specs.declared.code.Code.{Code}
use Rattle.thumb_encode.specs.declared.code.Code.TheVariants.{Half, Pair}
use Rattle.thumb_isa.specs.declared.encode_fault.EncodeFault.{EncodeFault}
use Rattle.thumb_isa.specs.declared.encode_fault.EncodeFault.TheVariants.{RegisterRange, ListEmpty, ImmediateRange, ImmediateAlign, TargetRange}

-- the code decodes to the instruction in a profile; a halfword does so whatever follows it
abbrev pub IsCodeIn : Profile → Code → Instr → Type 0
IsCodeIn p (Half half) i = (second : ℕ) → decode_result_for p half second ≡ Is i 2
IsCodeIn p (Pair first second) i = decode_result_for p first second ≡ Is i 4

-- it does in the second profile, which has every instruction
abbrev pub IsCodeOf : Code → Instr → Type 0
IsCodeOf = IsCodeIn Two

-- the first profile that has the instruction
abbrev pub least_profile : Instr → Profile
least_profile i = if is_late i then Two else One

-- no pair of halfwords decodes to the instruction
abbrev pub HasNoCode : Instr → Type 0
HasNoCode i = (first second size : ℕ) → first < 2 ^ 16 → second < 2 ^ 16 → decode_result_for Two first second ≡ Is i size → ⊥

-- this fault if the test holds, else what follows
abbrev pub refused_if : {A : Type 0} → Bool → EncodeFault → Result A EncodeFault → Result A EncodeFault
refused_if holds fault later = if holds then Err fault else later

-- the code that has this field
abbrev pub with_field : Result ℕ EncodeFault → (ℕ → Code) → Result Code EncodeFault
with_field (Ok field) code = Ok (code field)
with_field (Err fault) code = Err fault

abbrev pub both_below : ℕ → ℕ → ℕ → Bool
both_below limit a b = nat_lt a limit && nat_lt b limit

abbrev pub all_below : ℕ → ℕ → ℕ → ℕ → Bool
all_below limit a b c = nat_lt a limit && nat_lt b limit && nat_lt c limit

-- a branch offset is even, from -half to half - 1; its field is half of it, modulo `half`
abbrev pub target_field : ℕ → ℤ → Result ℕ EncodeFault
target_field half (pos n) = refused_if (nat_le half n || not (n % 2 == 0)) TargetRange (Ok (n / 2))
target_field half (negsuc n) = refused_if (nat_le half n || not (n % 2 == 1)) TargetRange (Ok (half - suc (n / 2)))

-- the offset of a CBZ is even, from 0 to 126; its field is half of it
abbrev pub cbz_field : ℤ → Result ℕ EncodeFault
cbz_field (pos n) = refused_if (nat_lt 126 n || not (n % 2 == 0)) TargetRange (Ok (n / 2))
cbz_field (negsuc n) = Err TargetRange

-- an offset from a register is a multiple of `scale` from 0 to `largest`; its field counts in `scale`
abbrev pub offset_field : ℕ → ℕ → ℤ → Result ℕ EncodeFault
offset_field scale largest (pos n) =
    refused_if (nat_lt largest n) ImmediateRange (refused_if (not (n % scale == 0)) ImmediateAlign (Ok (n / scale)))
offset_field scale largest (negsuc n) = Err ImmediateRange

-- a list has only registers among r0 to r7 and the one of this number
abbrev pub has_only : ℕ → ℕ → Bool
has_only k list = list == field list 0 8 + field list k 1 * 2 ^ k

-- the base is in the list together with a lower register
abbrev pub base_not_lowest : ℕ → ℕ → Bool
base_not_lowest n list = (field list n 1 == 1) && not (field list 0 n == 0)

-- three fields of three bits each
abbrev pub low_fields : ℕ → ℕ → ℕ → ℕ
low_fields high middle low = high * 2 ^ 6 + middle * 2 ^ 3 + low

-- two registers of four bits, the top bit of the first in bit 7
abbrev pub high_fields : ℕ → ℕ → ℕ
high_fields d m = d / 8 * 2 ^ 7 + m * 2 ^ 3 + d % 8

-- the two halfwords of a BL or of a 32-bit B, from the low 24 bits of half its offset; `base` gives the fixed bits of
-- the second
abbrev pub long_code : ℕ → ℕ → Code
long_code base target =
    let sign = target / 2 ^ 23 in
    let j1 = from_bool (target / 2 ^ 22 % 2 == sign) in
    let j2 = from_bool (target / 2 ^ 21 % 2 == sign) in
    Pair (0xf000 + sign * 2 ^ 10 + target / 2 ^ 11 % 2 ^ 10) (base + j1 * 2 ^ 13 + j2 * 2 ^ 11 + target % 2 ^ 11)

abbrev pub bl_code : ℕ → Code
bl_code = long_code 0xd000

abbrev pub b_wide_code : ℕ → Code
b_wide_code = long_code 0x9000

-- any register but sp and pc
abbrev pub is_general : ℕ → Bool
is_general r = nat_lt r 15 && not (r == 13)

-- the halfwords of a MOVW or MOVT: its immediate is imm4:i:imm3:imm8, and `base` tells which it is
abbrev pub sixteen_code : ℕ → ℕ → ℕ → Code
sixteen_code base d imm =
    Pair (base + imm / 2 ^ 11 % 2 * 2 ^ 10 + imm / 2 ^ 12) (imm / 2 ^ 8 % 2 ^ 3 * 2 ^ 12 + d * 2 ^ 8 + imm % 2 ^ 8)

-- the code of an instruction, or the first reason, in the order of the faults, why it has none
abbrev pub encode_result : Instr → Result Code EncodeFault
encode_result (ShiftImm op d m n) =
    refused_if (not (nat_lt op 3 && both_below 8 d m)) RegisterRange
    (refused_if (if op == 0 then nat_lt 31 n else (n == 0 || nat_lt 32 n)) ImmediateRange
    (Ok (Half (op * 2 ^ 11 + n % 32 * 2 ^ 6 + low_fields 0 m d))))
encode_result (AddSubReg sub d n m) =
    refused_if (not (all_below 8 d n m)) RegisterRange (Ok (Half (0x1800 + from_bool sub * 2 ^ 9 + low_fields m n d)))
encode_result (AddSubImm3 sub d n imm) =
    refused_if (not (both_below 8 d n)) RegisterRange
    (refused_if (nat_lt 7 imm) ImmediateRange (Ok (Half (0x1c00 + from_bool sub * 2 ^ 9 + low_fields imm n d))))
encode_result (Imm8 op d imm) =
    refused_if (not (nat_lt op 4 && nat_lt d 8)) RegisterRange
    (refused_if (nat_lt 255 imm) ImmediateRange (Ok (Half (0x2000 + op * 2 ^ 11 + d * 2 ^ 8 + imm))))
encode_result (Alu op d m) =
    refused_if (not (nat_lt op 16 && both_below 8 d m)) RegisterRange (Ok (Half (0x4000 + op * 2 ^ 6 + low_fields 0 m d)))
encode_result (AddHigh d m) =
    refused_if (not (both_below 16 d m) || (d == 15 && m == 15)) RegisterRange (Ok (Half (0x4400 + high_fields d m)))
encode_result (CmpHigh n m) =
    refused_if (not (both_below 15 n m) || both_below 8 n m) RegisterRange (Ok (Half (0x4500 + high_fields n m)))
encode_result (MovHigh d m) = refused_if (not (both_below 16 d m)) RegisterRange (Ok (Half (0x4600 + high_fields d m)))
encode_result (Bx m) = refused_if (nat_lt 14 m) RegisterRange (Ok (Half (0x4700 + m * 2 ^ 3)))
encode_result (Blx m) = refused_if (nat_lt 14 m) RegisterRange (Ok (Half (0x4780 + m * 2 ^ 3)))
encode_result (LdrLit t off) =
    refused_if (nat_lt 7 t) RegisterRange (with_field (offset_field 4 1020 off) (λ words. Half (0x4800 + t * 2 ^ 8 + words)))
encode_result (MemReg op t n m) =
    refused_if (not (nat_lt op 8 && all_below 8 t n m)) RegisterRange (Ok (Half (0x5000 + op * 2 ^ 9 + low_fields m n t)))
encode_result (MemImm op t n off) =
    refused_if (not (nat_lt op 6 && both_below 8 t n)) RegisterRange
    (if nat_lt op 2 then with_field (offset_field 4 124 off) (λ words. Half (0x6000 + op * 2 ^ 11 + low_fields words n t))
    else (if nat_lt op 4 then with_field (offset_field 1 31 off) (λ bytes. Half (0x7000 + (op - 2) * 2 ^ 11 + low_fields bytes n t))
    else with_field (offset_field 2 62 off) (λ halves. Half (0x8000 + (op - 4) * 2 ^ 11 + low_fields halves n t))))
encode_result (MemSp load t off) =
    refused_if (nat_lt 7 t) RegisterRange
    (with_field (offset_field 4 1020 off) (λ words. Half (0x9000 + from_bool load * 2 ^ 11 + t * 2 ^ 8 + words)))
encode_result (Adr d off) =
    refused_if (nat_lt 7 d) RegisterRange (with_field (offset_field 4 1020 off) (λ words. Half (0xa000 + d * 2 ^ 8 + words)))
encode_result (AddRdSp d off) =
    refused_if (nat_lt 7 d) RegisterRange (with_field (offset_field 4 1020 off) (λ words. Half (0xa800 + d * 2 ^ 8 + words)))
encode_result (AddSp off) = with_field (offset_field 4 508 off) (λ words. Half (0xb000 + words))
encode_result (SubSp off) = with_field (offset_field 4 508 off) (λ words. Half (0xb080 + words))
encode_result (Extend op d m) =
    refused_if (not (nat_lt op 4 && both_below 8 d m)) RegisterRange (Ok (Half (0xb200 + low_fields op m d)))
encode_result (Rev op d m) =
    refused_if (not (nat_lt op 4 && both_below 8 d m) || (op == 2)) RegisterRange (Ok (Half (0xba00 + low_fields op m d)))
encode_result (Push list) =
    refused_if (not (has_only 14 list)) RegisterRange
    (refused_if (list == 0) ListEmpty (Ok (Half (0xb400 + field list 0 8 + field list 14 1 * 2 ^ 8))))
encode_result (Pop list) =
    refused_if (not (has_only 15 list)) RegisterRange
    (refused_if (list == 0) ListEmpty (Ok (Half (0xbc00 + field list 0 8 + field list 15 1 * 2 ^ 8))))
encode_result (Hint n) = refused_if (nat_lt 15 n) ImmediateRange (Ok (Half (0xbf00 + n * 2 ^ 4)))
encode_result (Stm n list) =
    refused_if (not (nat_lt n 8 && nat_lt list 256) || base_not_lowest n list) RegisterRange
    (refused_if (list == 0) ListEmpty (Ok (Half (0xc000 + n * 2 ^ 8 + list))))
encode_result (Ldm n list) =
    refused_if (not (nat_lt n 8 && nat_lt list 256)) RegisterRange
    (refused_if (list == 0) ListEmpty (Ok (Half (0xc800 + n * 2 ^ 8 + list))))
encode_result (BCond cond off) =
    refused_if (nat_lt 13 cond) RegisterRange
    (with_field (target_field (2 ^ 8) off) (λ target. Half (0xd000 + cond * 2 ^ 8 + target)))
encode_result (Svc imm) = refused_if (nat_lt 255 imm) ImmediateRange (Ok (Half (0xdf00 + imm)))
encode_result (B off) = with_field (target_field (2 ^ 11) off) (λ target. Half (0xe000 + target))
encode_result (Bl off) = with_field (target_field (2 ^ 24) off) bl_code
encode_result (Barrier op option) =
    refused_if (nat_lt 2 op) RegisterRange
    (refused_if (nat_lt 15 option) ImmediateRange (Ok (Pair 0xf3bf (0x8f40 + op * 2 ^ 4 + option))))
encode_result (Cbz nonzero n off) =
    refused_if (nat_lt 7 n) RegisterRange
    (with_field (cbz_field off) (λ target. Half (0xb100 + from_bool nonzero * 2 ^ 11 + target / 2 ^ 5 * 2 ^ 9 + target % 2 ^ 5 * 2 ^ 3 + n)))
encode_result (BWide off) = with_field (target_field (2 ^ 24) off) b_wide_code
encode_result (MovW d imm) =
    refused_if (not (is_general d)) RegisterRange (refused_if (nat_lt 65535 imm) ImmediateRange (Ok (sixteen_code 0xf240 d imm)))
encode_result (MovT d imm) =
    refused_if (not (is_general d)) RegisterRange (refused_if (nat_lt 65535 imm) ImmediateRange (Ok (sixteen_code 0xf2c0 d imm)))
encode_result (Div signed d n m) =
    refused_if (not (is_general d && is_general n && is_general m)) RegisterRange
    (Ok (Pair (0xfb90 + from_bool (not signed) * 2 ^ 5 + n) (0xf0f0 + d * 2 ^ 8 + m)))

-- the code that an instruction of this size was decoded from
abbrev pub code_at : ℕ → ℕ → ℕ → Code
code_at first second size = if size == 2 then Half first else Pair first second

-- any pair of halfwords that decodes to the instruction is the result
abbrev pub GivesBack : Instr → Result Code EncodeFault → Type 0
GivesBack i result =
    (first second size : ℕ) → first < 2 ^ 16 → second < 2 ^ 16 → decode_result_for Two first second ≡ Is i size → result ≡ Ok (code_at first second size)
