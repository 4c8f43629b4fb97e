-- The sixteen operations on two low registers.
use Rattle.std.specs.Prelude.{ℕ, ◌*◌, ◌%◌, ◌^◌, Bool, true, false, bit_and, bit_or, bit_xor, ◌==◌, nat_le, if◌then◌else◌}
use Rattle.std.specs.Int.{from_bool}
use Rattle.thumb_core.specs.declared.alu.TheConstants.{AND, EOR, LSL, LSR, ASR, ADC, SBC, ROR, TST, RSB, CMP, CMN, ORR, MUL, BIC}
use Rattle.thumb_core.specs.declared.shift.TheConstants as shift
use Rattle.thumb_core.specs.declared.regs.Regs.{Regs}
use Rattle.thumb_core.specs.declared.arith.Sum.{Sum}
use Rattle.thumb_core.specs.declared.alu.Answer.{Answer}
use Rattle.thumb_core.specs.Arith.{sum_of, difference_of, complement}
use Rattle.thumb_core.specs.Shift.{shift_of, rotation_of}
use Rattle.thumb_core.specs.Registers.{reg, write_register}

-- a value that leaves C and V
abbrev pub logic : ℕ → Bool → Regs → Answer
logic x written regs = record { value = x; written = written; carry = regs.c; overflow = regs.v }

-- a sum with its two flags
abbrev pub of_sum : Sum → Bool → Answer
of_sum s written = record { value = s.value; written = written; carry = s.carry; overflow = s.overflow }

-- a shift with its last bit, which leaves V
abbrev pub of_shift : ℕ × Bool → Regs → Answer
of_shift s regs = record { value = s.0; written = true; carry = s.1; overflow = regs.v }

-- an operation on x and y. TST, CMP and CMN write no register; a shift amount is the lowest byte of y
abbrev pub alu_of : ℕ → ℕ → ℕ → Regs → Answer
alu_of op x y regs =
    if op == AND then logic (bit_and x y) true regs else (
    if op == EOR then logic (bit_xor x y) true regs else (
    if op == LSL then of_shift (shift_of shift.LSL x (y % 256) regs.c) regs else (
    if op == LSR then of_shift (shift_of shift.LSR x (y % 256) regs.c) regs else (
    if op == ASR then of_shift (shift_of shift.ASR x (y % 256) regs.c) regs else (
    if op == ADC then of_sum (sum_of x y (from_bool regs.c)) true else (
    if op == SBC then of_sum (sum_of x (complement y) (from_bool regs.c)) true else (
    if op == ROR then of_shift (rotation_of x (y % 256) regs.c) regs else (
    if op == TST then logic (bit_and x y) false regs else (
    if op == RSB then of_sum (difference_of 0 y) true else (
    if op == CMP then of_sum (difference_of x y) false else (
    if op == CMN then of_sum (sum_of x y 0) false else (
    if op == ORR then logic (bit_or x y) true regs else (
    if op == MUL then logic (x * y % 2 ^ 32) true regs else (
    if op == BIC then logic (bit_and x (complement y)) true regs else
    logic (complement y) true regs))))))))))))))

-- an answer in register d and the flags
abbrev pub with_answer : Answer → ℕ → Regs → Regs
with_answer a d regs = record regs {
  r = (if a.written then write_register regs.r d a.value else regs.r);
  n = nat_le (2 ^ 31) a.value;
  z = a.value == 0;
  c = a.carry;
  v = a.overflow;
}

abbrev pub alu : ℕ → ℕ → ℕ → Regs → Regs
alu op d m regs = with_answer (alu_of op (reg regs d) (reg regs m) regs) d regs
