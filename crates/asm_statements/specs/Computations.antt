-- The computations of a source: the instruction of each, with its size and its word (docs/rules/sources.md; Armv6-M
-- Architecture Reference Manual, DDI 0419, and Armv8-M, DDI 0553).
use Rattle.std.specs.Prelude.{ℕ, ◌^◌, ◌==◌, ◌&&◌, ℤ, pos, negsuc, Bool, false, nat_lt, if◌then◌else◌, List, [], ◌∷◌, slice_index_or, codes}
use Rattle.asm_statements.specs.declared.computation.OfTwoRegisters.{OfTwoRegisters}
use Rattle.asm_statements.specs.declared.computation.OfTwoRegisters.TheVariants as two
use Rattle.asm_statements.specs.declared.computation.OfThreeRegisters.{OfThreeRegisters}
use Rattle.asm_statements.specs.declared.computation.OfThreeRegisters.TheVariants as three
use Rattle.asm_statements.specs.declared.computation.OfRegisterNumber.{OfRegisterNumber}
use Rattle.asm_statements.specs.declared.computation.OfRegisterNumber.TheVariants as number
use Rattle.asm_statements.specs.declared.computation.OfTwoRegistersNumber.{OfTwoRegistersNumber}
use Rattle.asm_statements.specs.declared.computation.OfTwoRegistersNumber.TheVariants as two_number
use Rattle.thumb_isa.specs.declared.instr.Instr.{Instr}
use Rattle.thumb_isa.specs.declared.instr.Instr.TheVariants.{ShiftImm, AddSubReg, AddSubImm3, Imm8, Alu, AddHigh, CmpHigh, MovHigh, Extend, Rev, MovW, MovT, Div}
use Rattle.asm_statements.specs.declared.computation.SizedInstr.{SizedInstr}

-- a number as an unsigned field; one that doesn't fit 32 bits becomes one too large for every field
abbrev pub unsigned_field : ℤ → ℕ
unsigned_field (pos n) = if nat_lt n (2 ^ 32) then n else 0xffffffff
unsigned_field (negsuc n) = 0xffffffff

-- a number as an offset field; one that doesn't fit 32 bits becomes one too large for every field
abbrev pub offset : ℤ → ℤ
offset (pos n) = if nat_lt n (2 ^ 31) then pos n else pos 0x7fffffff
offset (negsuc n) = if nat_lt n (2 ^ 31) then negsuc n else pos 0x7fffffff

-- `cmp` of two registers: the form for low registers if both are low
abbrev pub compare : ℕ → ℕ → Instr
compare n m = if nat_lt n 8 && nat_lt m 8 then Alu 10 n m else CmpHigh n m

-- `adds` and `subs` with eight bits
abbrev pub add_eight : Bool → ℕ → ℤ → Instr
add_eight sub d imm = Imm8 (if sub then 3 else 2) d (unsigned_field imm)

abbrev pub is_above_seven : ℤ → Bool
is_above_seven (pos n) = nat_lt 7 n
is_above_seven (negsuc n) = false

-- `adds` and `subs` of three operands: with a 3-bit immediate up to 7; above, with 8 bits if both registers are the
-- same
abbrev pub add_three : Bool → ℕ → ℕ → ℤ → Instr
add_three sub d n imm = if is_above_seven imm && (d == n) then add_eight sub d imm else AddSubImm3 sub d n (unsigned_field imm)

-- an instruction of one halfword
abbrev pub half : Instr → SizedInstr
half i = record { bytes = 2; instr = i }

-- .. and of two
abbrev pub wide : Instr → SizedInstr
wide i = record { bytes = 4; instr = i }

-- rd, rm
abbrev pub of_two_registers : OfTwoRegisters → ℕ → ℕ → SizedInstr
of_two_registers two.MovsReg d m = half (ShiftImm 0 d m 0)
of_two_registers two.Mov d m = half (MovHigh d m)
of_two_registers two.CmpReg n m = half (compare n m)
of_two_registers two.AddReg d m = half (AddHigh d m)
of_two_registers (two.Alu op) d m = half (Alu op d m)
of_two_registers (two.Extend op) d m = half (Extend op d m)
of_two_registers (two.Rev op) d m = half (Rev op d m)

-- rd, rn, rm
abbrev pub of_three_registers : OfThreeRegisters → ℕ → ℕ → ℕ → SizedInstr
of_three_registers (three.AddSubReg sub) d n m = half (AddSubReg sub d n m)
of_three_registers (three.Div signed) d n m = wide (Div signed d n m)

-- rd, #imm
abbrev pub of_register_number : OfRegisterNumber → ℕ → ℤ → SizedInstr
of_register_number number.MovsImm d imm = half (Imm8 0 d (unsigned_field imm))
of_register_number number.CmpImm n imm = half (Imm8 1 n (unsigned_field imm))
of_register_number (number.AddSubTwo sub) d imm = half (add_eight sub d imm)
of_register_number number.MovW d imm = wide (MovW d (unsigned_field imm))
of_register_number number.MovT d imm = wide (MovT d (unsigned_field imm))

-- rd, rn, #imm
abbrev pub of_two_registers_number : OfTwoRegistersNumber → ℕ → ℕ → ℤ → SizedInstr
of_two_registers_number (two_number.AddSubThree sub) d n imm = half (add_three sub d n imm)
of_two_registers_number (two_number.ShiftImm op) d m imm = half (ShiftImm op d m (unsigned_field imm))

-- ---- their words

-- the word of a list that stands at a place
abbrev pub word_of : List (List ℕ) → ℕ → List ℕ
word_of words n = slice_index_or words n []

-- by the opcode field of data processing; operations without a mnemonic in sources have none here
abbrev pub alu_words : List (List ℕ)
alu_words = codes "ands" ∷ codes "eors" ∷ codes "lsls" ∷ codes "lsrs" ∷ codes "asrs" ∷ codes "adcs" ∷ codes "sbcs" ∷ codes "rors" ∷ codes "tst" ∷ [] ∷ [] ∷ codes "cmn" ∷ codes "orrs" ∷ codes "muls" ∷ codes "bics" ∷ codes "mvns" ∷ []

abbrev pub extend_words : List (List ℕ)
extend_words = codes "sxth" ∷ codes "sxtb" ∷ codes "uxth" ∷ codes "uxtb" ∷ []

abbrev pub reverse_words : List (List ℕ)
reverse_words = codes "rev" ∷ codes "rev16" ∷ [] ∷ codes "revsh" ∷ []

abbrev pub shift_words : List (List ℕ)
shift_words = codes "lsls" ∷ codes "lsrs" ∷ codes "asrs" ∷ []

abbrev pub sum_word : Bool → List ℕ
sum_word sub = if sub then codes "subs" else codes "adds"

-- the word of a computation of rd, rm; None if a field has no mnemonic
abbrev pub two_word : OfTwoRegisters → List ℕ
two_word two.MovsReg = codes "movs"
two_word two.Mov = codes "mov"
two_word two.CmpReg = codes "cmp"
two_word two.AddReg = codes "add"
two_word (two.Alu op) = word_of alu_words op
two_word (two.Extend op) = word_of extend_words op
two_word (two.Rev op) = word_of reverse_words op

-- .. of rd, rn, rm
abbrev pub three_word : OfThreeRegisters → List ℕ
three_word (three.AddSubReg sub) = sum_word sub
three_word (three.Div signed) = if signed then codes "sdiv" else codes "udiv"

-- .. of rd, #imm
abbrev pub number_word : OfRegisterNumber → List ℕ
number_word number.MovsImm = codes "movs"
number_word number.CmpImm = codes "cmp"
number_word (number.AddSubTwo sub) = sum_word sub
number_word number.MovW = codes "movw"
number_word number.MovT = codes "movt"

-- .. of rd, rn, #imm
abbrev pub two_number_word : OfTwoRegistersNumber → List ℕ
two_number_word (two_number.AddSubThree sub) = sum_word sub
two_number_word (two_number.ShiftImm op) = word_of shift_words op
