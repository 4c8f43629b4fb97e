-- Instructions that change only low registers, sp and flags, besides pc.
use Rattle.std.specs.Prelude.{ℕ, ℤ, ◌+◌, ◌-◌, ◌*◌, ◌/◌, ◌%◌, ◌^◌, nat_le, Bool, true, false, ◌==◌, if◌then◌else◌}
use Rattle.std.specs.Int.{cast_unsigned, w32}
use Rattle.thumb_isa.specs.declared.instr.Instr.{Instr}
use Rattle.thumb_isa.specs.declared.instr.Instr.TheVariants.{ShiftImm, AddSubReg, AddSubImm3, Imm8, Alu, CmpHigh, Adr, AddRdSp, AddSp, SubSp, Extend, Rev, Hint, Barrier, MovW, MovT, Div}
use Rattle.thumb_core.specs.declared.data.TheConstants.{MOV, CMP, ADD, SXTH, SXTB, UXTH, REV, REV16}
use Rattle.thumb_core.specs.declared.regs.TheConstants.{SP}
use Rattle.thumb_core.specs.declared.regs.Regs.{Regs}
use Rattle.thumb_core.specs.declared.arith.Sum.{Sum}
use Rattle.thumb_core.specs.Arith.{sum_of, difference_of, sum_or_difference, sign_extension, byte_of}
use Rattle.thumb_core.specs.Registers.{reg, operand, base, with_reg, with_nz, with_flags}
use Rattle.thumb_core.specs.Shift.{shift_of}
use Rattle.thumb_core.specs.Alu.{alu}

-- both are so, or neither
abbrev pub same_bool : Bool → Bool → Bool
same_bool true b = b
same_bool false true = false
same_bool false false = true

-- an address some bytes further on
abbrev pub forward : ℕ → ℤ → ℕ
forward a off = (a + cast_unsigned w32 off) % 2 ^ 32

-- an address some bytes further back
abbrev pub backward : ℕ → ℤ → ℕ
backward a off = (a + (2 ^ 32 - cast_unsigned w32 off)) % 2 ^ 32

-- a value in d, with N and Z
abbrev pub with_value : ℕ → ℕ → Regs → Regs
with_value d x regs = with_nz (with_reg regs d x) x

-- a sum in d, with all flags
abbrev pub with_sum : ℕ → Sum → Regs → Regs
with_sum d s regs = with_flags (with_reg regs d s.value) s

-- a shift in d, with N, Z and C
abbrev pub with_shift : ℕ → ℕ × Bool → Regs → Regs
with_shift d s regs = record (with_value d s.0 regs) { c = s.1 }

-- LSL, LSR and ASR by a constant; LSL by 0 is MOVS
abbrev pub shift_imm : ℕ → ℕ → ℕ → ℕ → Regs → Regs
shift_imm op d m n regs = with_shift d (shift_of op (reg regs m) n regs.c) regs

-- ADD and SUB of two registers
abbrev pub add_sub_reg : Bool → ℕ → ℕ → ℕ → Regs → Regs
add_sub_reg sub d n m regs = with_sum d (sum_or_difference sub (reg regs n) (reg regs m)) regs

-- ADD and SUB of a small number
abbrev pub add_sub_imm : Bool → ℕ → ℕ → ℕ → Regs → Regs
add_sub_imm sub d n imm regs = with_sum d (sum_or_difference sub (reg regs n) imm) regs

-- MOV, CMP, ADD and SUB of a byte
abbrev pub imm8 : ℕ → ℕ → ℕ → Regs → Regs
imm8 op d imm regs =
    if op == MOV then with_value d imm regs else (
    if op == CMP then with_flags regs (difference_of (reg regs d) imm) else (
    if op == ADD then with_sum d (sum_of (reg regs d) imm 0) regs else
    with_sum d (difference_of (reg regs d) imm) regs))

-- CMP of two registers of which one is high
abbrev pub cmp_high : ℕ → ℕ → Regs → Regs
cmp_high n m regs = with_flags regs (difference_of (operand regs n) (operand regs m))

-- ADR
abbrev pub adr : ℕ → ℤ → Regs → Regs
adr d off regs = with_reg regs d (forward (base regs) off)

-- ADD of sp and a number, to a low register
abbrev pub add_rd_sp : ℕ → ℤ → Regs → Regs
add_rd_sp d off regs = with_reg regs d (forward (reg regs SP) off)

-- ADD to sp
abbrev pub add_sp : ℤ → Regs → Regs
add_sp off regs = with_reg regs SP (forward (reg regs SP) off)

-- SUB from sp
abbrev pub sub_sp : ℤ → Regs → Regs
sub_sp off regs = with_reg regs SP (backward (reg regs SP) off)

-- SXTH, SXTB, UXTH and UXTB
abbrev pub extension_of : ℕ → ℕ → ℕ
extension_of op x =
    if op == SXTH then sign_extension 16 x else (if op == SXTB then sign_extension 8 x else (
    if op == UXTH then x % 2 ^ 16 else x % 2 ^ 8))

abbrev pub extend : ℕ → ℕ → ℕ → Regs → Regs
extend op d m regs = with_reg regs d (extension_of op (reg regs m))

-- the two lowest bytes, the other way round
abbrev pub half_reversal : ℕ → ℕ
half_reversal x = byte_of 1 x + byte_of 0 x * 2 ^ 8

-- REV, REV16 and REVSH
abbrev pub reversal_of : ℕ → ℕ → ℕ
reversal_of op x =
    if op == REV then byte_of 3 x + byte_of 2 x * 2 ^ 8 + byte_of 1 x * 2 ^ 16 + byte_of 0 x * 2 ^ 24 else (
    if op == REV16 then byte_of 1 x + byte_of 0 x * 2 ^ 8 + byte_of 3 x * 2 ^ 16 + byte_of 2 x * 2 ^ 24 else
    sign_extension 16 (half_reversal x))

abbrev pub rev : ℕ → ℕ → ℕ → Regs → Regs
rev op d m regs = with_reg regs d (reversal_of op (reg regs m))

-- MOVW
abbrev pub mov_wide : ℕ → ℕ → Regs → Regs
mov_wide d imm regs = with_reg regs d imm

-- MOVT: the upper half is new, the lower half stays
abbrev pub mov_top : ℕ → ℕ → Regs → Regs
mov_top d imm regs = with_reg regs d (imm * 2 ^ 16 + reg regs d % 2 ^ 16)

-- UDIV: the quotient, and 0 where the divisor is 0
abbrev pub unsigned_quotient : ℕ → ℕ → ℕ
unsigned_quotient x y = if y == 0 then 0 else x / y

-- a word as the number of its sign and its magnitude
abbrev pub is_minus : ℕ → Bool
is_minus x = nat_le (2 ^ 31) x

abbrev pub magnitude : ℕ → ℕ
magnitude x = if is_minus x then 2 ^ 32 - x else x

-- SDIV: the quotient of the signed numbers, rounded towards zero, and 0 where the divisor is 0. That of -2 ^ 31 and -1 is 2 ^ 31, which as a
-- word is -2 ^ 31
abbrev pub signed_quotient : ℕ → ℕ → ℕ
signed_quotient x y =
    let q = unsigned_quotient (magnitude x) (magnitude y) in
    if same_bool (is_minus x) (is_minus y) then q else (2 ^ 32 - q) % 2 ^ 32

abbrev pub quotient : Bool → ℕ → ℕ → ℕ
quotient signed x y = if signed then signed_quotient x y else unsigned_quotient x y

-- SDIV and UDIV
abbrev pub divide : Bool → ℕ → ℕ → ℕ → Regs → Regs
divide signed d n m regs = with_reg regs d (quotient signed (reg regs n) (reg regs m))

-- the registers after an instruction of this group, before pc advances; other instructions are defined elsewhere
abbrev pub data_effect : Instr → Regs → Regs
data_effect (ShiftImm op d k n) regs = shift_imm op d k n regs
data_effect (AddSubReg sub d n k) regs = add_sub_reg sub d n k regs
data_effect (AddSubImm3 sub d n imm) regs = add_sub_imm sub d n imm regs
data_effect (Imm8 op d imm) regs = imm8 op d imm regs
data_effect (Alu op d k) regs = alu op d k regs
data_effect (CmpHigh n k) regs = cmp_high n k regs
data_effect (Adr d off) regs = adr d off regs
data_effect (AddRdSp d off) regs = add_rd_sp d off regs
data_effect (AddSp off) regs = add_sp off regs
data_effect (SubSp off) regs = sub_sp off regs
data_effect (Extend op d k) regs = extend op d k regs
data_effect (Rev op d k) regs = rev op d k regs
data_effect (Hint n) regs = regs
data_effect (Barrier op option) regs = regs
data_effect (MovW d imm) regs = mov_wide d imm regs
data_effect (MovT d imm) regs = mov_top d imm regs
data_effect (Div signed d n k) regs = divide signed d n k regs
data_effect _ regs = regs
