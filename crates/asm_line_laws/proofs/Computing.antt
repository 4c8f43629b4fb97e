-- Statements that compute: a line for each word.
use Rattle.std.proofs.Common.{◌≡◌, ℕ, zero, suc, ◌<◌, true, false, List, [], ◌∷◌, Ok, ℤ, pos, refl, arith, codes}
use Rattle.asm_statements.specs.declared.computation.OfTwoRegisters.{OfTwoRegisters}
use Rattle.asm_statements.specs.declared.computation.OfTwoRegisters.TheVariants as of_two
use Rattle.asm_statements.specs.declared.computation.OfThreeRegisters.{OfThreeRegisters}
use Rattle.asm_statements.specs.declared.computation.OfThreeRegisters.TheVariants as of_three
use Rattle.asm_statements.specs.declared.computation.OfRegisterNumber.{OfRegisterNumber}
use Rattle.asm_statements.specs.declared.computation.OfRegisterNumber.TheVariants as of_number
use Rattle.asm_statements.specs.declared.computation.OfTwoRegistersNumber.{OfTwoRegistersNumber}
use Rattle.asm_statements.specs.declared.computation.OfTwoRegistersNumber.TheVariants as of_two_number
use Rattle.asm_statements.specs.declared.statement.StmtKind.TheVariants.{TwoRegisters, ThreeRegisters, RegisterNumber, TwoRegistersNumber}
use Rattle.asm_statements.specs.Computations.{two_word, three_word, number_word, two_number_word}
use Rattle.asm_read.specs.declared.makes.Makes.TheVariants as makes
use Rattle.asm_read.specs.Forms.{directives, a_to_b, c_to_l, m_to_z, rows}
use Rattle.asm_read.specs.Statements.{kind_of as kind_made}
use Rattle.asm_read.specs.Reading.{stmt, source_stmts}
use Rattle.asm_line_laws.specs.Written.{InRange, line, two, three, register_number, two_number, IsWritable}
use Rattle.asm_line_laws.proofs.Items.{reg, num, sign}
use Rattle.asm_line_laws.proofs.Fitted.{fitted}
use Rattle.asm_line_laws.proofs.Standing.{IsMnemonic, values}
use Rattle.asm_line_laws.proofs.Chosen.{picked, chosen}
use Rattle.asm_line_laws.proofs.Shapes.{of_two as two_shape, of_three as three_shape, of_register_number as number_shape, of_two_number as two_number_shape}
use Rattle.asm_line_laws.proofs.Accesses.{add_rows}

two_reads : (w : List ℕ) (what : OfTwoRegisters) (a b : ℕ) → IsMnemonic w → a < 16 → b < 16 → chosen rows w (reg a ∷ sign 44 ∷ reg b ∷ []) ≡ picked (makes.OfTwoRegisters what) (values a b 0 (pos 0) []) → source_stmts (line w (two a b)) ≡ Ok (stmt 1 (TwoRegisters what a b) ∷ [])
unfolding kind_made
two_reads w what a b is ha hb choice = two_shape w (makes.OfTwoRegisters what) (TwoRegisters what a b) a b is ha hb choice (λ text o g. cc (g.first, g.second))

three_reads : (w : List ℕ) (what : OfThreeRegisters) (a b c : ℕ) → IsMnemonic w → a < 16 → b < 16 → c < 16 → chosen rows w (reg a ∷ sign 44 ∷ reg b ∷ sign 44 ∷ reg c ∷ []) ≡ picked (makes.OfThreeRegisters what) (values a b c (pos 0) []) → source_stmts (line w (three a b c)) ≡ Ok (stmt 1 (ThreeRegisters what a b c) ∷ [])
unfolding kind_made
three_reads w what a b c is ha hb hc choice = three_shape w (makes.OfThreeRegisters what) (ThreeRegisters what a b c) a b c is ha hb hc choice (λ text o g. cc (g.first, g.second, g.third))

number_reads : (w : List ℕ) (what : OfRegisterNumber) (a : ℕ) (z : ℤ) → IsMnemonic w → a < 16 → InRange z → chosen rows w (reg a ∷ sign 44 ∷ sign 35 ∷ num z ∷ []) ≡ picked (makes.OfRegisterNumber what) (values a 0 0 z []) → source_stmts (line w (register_number a z)) ≡ Ok (stmt 1 (RegisterNumber what a z) ∷ [])
unfolding kind_made
number_reads w what a z is ha hz choice = number_shape w (makes.OfRegisterNumber what) (RegisterNumber what a z) a z is ha hz choice (λ text o g. cc (g.first, g.number))

two_number_reads : (w : List ℕ) (what : OfTwoRegistersNumber) (a b : ℕ) (z : ℤ) → IsMnemonic w → a < 16 → b < 16 → InRange z → chosen rows w (reg a ∷ sign 44 ∷ reg b ∷ sign 44 ∷ sign 35 ∷ num z ∷ []) ≡ picked (makes.OfTwoRegistersNumber what) (values a b 0 z []) → source_stmts (line w (two_number a b z)) ≡ Ok (stmt 1 (TwoRegistersNumber what a b z) ∷ [])
unfolding kind_made
two_number_reads w what a b z is ha hb hz choice = two_number_shape w (makes.OfTwoRegistersNumber what) (TwoRegistersNumber what a b z) a b z is ha hb hz choice (λ text o g. cc (g.first, g.second, g.number))

-- rd, rm
pub two_lines : (what : OfTwoRegisters) (d m : ℕ) → IsWritable (TwoRegisters what d m) → source_stmts (line (two_word what) (two d m)) ≡ Ok (stmt 1 (TwoRegisters what d m) ∷ [])
unfolding rows directives a_to_b c_to_l m_to_z fitted
two_lines of_two.MovsReg d m h = two_reads (codes "movs") of_two.MovsReg d m (record { named = refl; kept = refl; clean = refl; brief = omega arith }) h.1 h.2 refl
two_lines of_two.Mov d m h = two_reads (codes "mov") of_two.Mov d m (record { named = refl; kept = refl; clean = refl; brief = omega arith }) h.1 h.2 refl
two_lines of_two.CmpReg d m h = two_reads (codes "cmp") of_two.CmpReg d m (record { named = refl; kept = refl; clean = refl; brief = omega arith }) h.1 h.2 refl
two_lines of_two.AddReg d m h = two_reads (codes "add") of_two.AddReg d m (record { named = refl; kept = refl; clean = refl; brief = omega arith }) h.1 h.2 (add_rows d m)
two_lines (of_two.Alu zero) d m h = two_reads (codes "ands") (of_two.Alu 0) d m (record { named = refl; kept = refl; clean = refl; brief = omega arith }) h.1 h.2 refl
two_lines (of_two.Alu (suc zero)) d m h = two_reads (codes "eors") (of_two.Alu 1) d m (record { named = refl; kept = refl; clean = refl; brief = omega arith }) h.1 h.2 refl
two_lines (of_two.Alu (suc (suc zero))) d m h = two_reads (codes "lsls") (of_two.Alu 2) d m (record { named = refl; kept = refl; clean = refl; brief = omega arith }) h.1 h.2 refl
two_lines (of_two.Alu (suc (suc (suc zero)))) d m h = two_reads (codes "lsrs") (of_two.Alu 3) d m (record { named = refl; kept = refl; clean = refl; brief = omega arith }) h.1 h.2 refl
two_lines (of_two.Alu (suc (suc (suc (suc zero))))) d m h = two_reads (codes "asrs") (of_two.Alu 4) d m (record { named = refl; kept = refl; clean = refl; brief = omega arith }) h.1 h.2 refl
two_lines (of_two.Alu (suc (suc (suc (suc (suc zero)))))) d m h = two_reads (codes "adcs") (of_two.Alu 5) d m (record { named = refl; kept = refl; clean = refl; brief = omega arith }) h.1 h.2 refl
two_lines (of_two.Alu (suc (suc (suc (suc (suc (suc zero))))))) d m h = two_reads (codes "sbcs") (of_two.Alu 6) d m (record { named = refl; kept = refl; clean = refl; brief = omega arith }) h.1 h.2 refl
two_lines (of_two.Alu (suc (suc (suc (suc (suc (suc (suc zero)))))))) d m h = two_reads (codes "rors") (of_two.Alu 7) d m (record { named = refl; kept = refl; clean = refl; brief = omega arith }) h.1 h.2 refl
two_lines (of_two.Alu (suc (suc (suc (suc (suc (suc (suc (suc zero))))))))) d m h = two_reads (codes "tst") (of_two.Alu 8) d m (record { named = refl; kept = refl; clean = refl; brief = omega arith }) h.1 h.2 refl
two_lines (of_two.Alu (suc (suc (suc (suc (suc (suc (suc (suc (suc zero)))))))))) d m h = absurd (h.0 refl)
two_lines (of_two.Alu (suc (suc (suc (suc (suc (suc (suc (suc (suc (suc zero))))))))))) d m h = absurd (h.0 refl)
two_lines (of_two.Alu (suc (suc (suc (suc (suc (suc (suc (suc (suc (suc (suc zero)))))))))))) d m h = two_reads (codes "cmn") (of_two.Alu 11) d m (record { named = refl; kept = refl; clean = refl; brief = omega arith }) h.1 h.2 refl
two_lines (of_two.Alu (suc (suc (suc (suc (suc (suc (suc (suc (suc (suc (suc (suc zero))))))))))))) d m h = two_reads (codes "orrs") (of_two.Alu 12) d m (record { named = refl; kept = refl; clean = refl; brief = omega arith }) h.1 h.2 refl
two_lines (of_two.Alu (suc (suc (suc (suc (suc (suc (suc (suc (suc (suc (suc (suc (suc zero)))))))))))))) d m h = two_reads (codes "muls") (of_two.Alu 13) d m (record { named = refl; kept = refl; clean = refl; brief = omega arith }) h.1 h.2 refl
two_lines (of_two.Alu (suc (suc (suc (suc (suc (suc (suc (suc (suc (suc (suc (suc (suc (suc zero))))))))))))))) d m h = two_reads (codes "bics") (of_two.Alu 14) d m (record { named = refl; kept = refl; clean = refl; brief = omega arith }) h.1 h.2 refl
two_lines (of_two.Alu (suc (suc (suc (suc (suc (suc (suc (suc (suc (suc (suc (suc (suc (suc (suc zero)))))))))))))))) d m h = two_reads (codes "mvns") (of_two.Alu 15) d m (record { named = refl; kept = refl; clean = refl; brief = omega arith }) h.1 h.2 refl
two_lines (of_two.Alu (suc (suc (suc (suc (suc (suc (suc (suc (suc (suc (suc (suc (suc (suc (suc (suc op))))))))))))))))) d m h = absurd (h.0 refl)
two_lines (of_two.Extend zero) d m h = two_reads (codes "sxth") (of_two.Extend 0) d m (record { named = refl; kept = refl; clean = refl; brief = omega arith }) h.1 h.2 refl
two_lines (of_two.Extend (suc zero)) d m h = two_reads (codes "sxtb") (of_two.Extend 1) d m (record { named = refl; kept = refl; clean = refl; brief = omega arith }) h.1 h.2 refl
two_lines (of_two.Extend (suc (suc zero))) d m h = two_reads (codes "uxth") (of_two.Extend 2) d m (record { named = refl; kept = refl; clean = refl; brief = omega arith }) h.1 h.2 refl
two_lines (of_two.Extend (suc (suc (suc zero)))) d m h = two_reads (codes "uxtb") (of_two.Extend 3) d m (record { named = refl; kept = refl; clean = refl; brief = omega arith }) h.1 h.2 refl
two_lines (of_two.Extend (suc (suc (suc (suc op))))) d m h = absurd (h.0 refl)
two_lines (of_two.Rev zero) d m h = two_reads (codes "rev") (of_two.Rev 0) d m (record { named = refl; kept = refl; clean = refl; brief = omega arith }) h.1 h.2 refl
two_lines (of_two.Rev (suc zero)) d m h = two_reads (codes "rev16") (of_two.Rev 1) d m (record { named = refl; kept = refl; clean = refl; brief = omega arith }) h.1 h.2 refl
two_lines (of_two.Rev (suc (suc zero))) d m h = absurd (h.0 refl)
two_lines (of_two.Rev (suc (suc (suc zero)))) d m h = two_reads (codes "revsh") (of_two.Rev 3) d m (record { named = refl; kept = refl; clean = refl; brief = omega arith }) h.1 h.2 refl
two_lines (of_two.Rev (suc (suc (suc (suc op))))) d m h = absurd (h.0 refl)

-- rd, rn, rm
pub three_lines : (what : OfThreeRegisters) (d n m : ℕ) → IsWritable (ThreeRegisters what d n m) → source_stmts (line (three_word what) (three d n m)) ≡ Ok (stmt 1 (ThreeRegisters what d n m) ∷ [])
unfolding rows directives a_to_b c_to_l m_to_z fitted
three_lines (of_three.AddSubReg false) d n m h = three_reads (codes "adds") (of_three.AddSubReg false) d n m (record { named = refl; kept = refl; clean = refl; brief = omega arith }) h.1 h.2 h.3 refl
three_lines (of_three.AddSubReg true) d n m h = three_reads (codes "subs") (of_three.AddSubReg true) d n m (record { named = refl; kept = refl; clean = refl; brief = omega arith }) h.1 h.2 h.3 refl
three_lines (of_three.Div true) d n m h = three_reads (codes "sdiv") (of_three.Div true) d n m (record { named = refl; kept = refl; clean = refl; brief = omega arith }) h.1 h.2 h.3 refl
three_lines (of_three.Div false) d n m h = three_reads (codes "udiv") (of_three.Div false) d n m (record { named = refl; kept = refl; clean = refl; brief = omega arith }) h.1 h.2 h.3 refl

-- rd, #imm
pub number_lines : (what : OfRegisterNumber) (d : ℕ) (z : ℤ) → IsWritable (RegisterNumber what d z) → source_stmts (line (number_word what) (register_number d z)) ≡ Ok (stmt 1 (RegisterNumber what d z) ∷ [])
unfolding rows directives a_to_b c_to_l m_to_z fitted
number_lines of_number.MovsImm d z h = number_reads (codes "movs") of_number.MovsImm d z (record { named = refl; kept = refl; clean = refl; brief = omega arith }) h.1 h.2 refl
number_lines of_number.CmpImm d z h = number_reads (codes "cmp") of_number.CmpImm d z (record { named = refl; kept = refl; clean = refl; brief = omega arith }) h.1 h.2 refl
number_lines (of_number.AddSubTwo false) d z h = number_reads (codes "adds") (of_number.AddSubTwo false) d z (record { named = refl; kept = refl; clean = refl; brief = omega arith }) h.1 h.2 refl
number_lines (of_number.AddSubTwo true) d z h = number_reads (codes "subs") (of_number.AddSubTwo true) d z (record { named = refl; kept = refl; clean = refl; brief = omega arith }) h.1 h.2 refl
number_lines of_number.MovW d z h = number_reads (codes "movw") of_number.MovW d z (record { named = refl; kept = refl; clean = refl; brief = omega arith }) h.1 h.2 refl
number_lines of_number.MovT d z h = number_reads (codes "movt") of_number.MovT d z (record { named = refl; kept = refl; clean = refl; brief = omega arith }) h.1 h.2 refl

-- rd, rn, #imm
pub two_number_lines : (what : OfTwoRegistersNumber) (d n : ℕ) (z : ℤ) → IsWritable (TwoRegistersNumber what d n z) → source_stmts (line (two_number_word what) (two_number d n z)) ≡ Ok (stmt 1 (TwoRegistersNumber what d n z) ∷ [])
unfolding rows directives a_to_b c_to_l m_to_z fitted
two_number_lines (of_two_number.AddSubThree false) d n z h = two_number_reads (codes "adds") (of_two_number.AddSubThree false) d n z (record { named = refl; kept = refl; clean = refl; brief = omega arith }) h.1 h.2 h.3 refl
two_number_lines (of_two_number.AddSubThree true) d n z h = two_number_reads (codes "subs") (of_two_number.AddSubThree true) d n z (record { named = refl; kept = refl; clean = refl; brief = omega arith }) h.1 h.2 h.3 refl
two_number_lines (of_two_number.ShiftImm zero) d n z h = two_number_reads (codes "lsls") (of_two_number.ShiftImm 0) d n z (record { named = refl; kept = refl; clean = refl; brief = omega arith }) h.1 h.2 h.3 refl
two_number_lines (of_two_number.ShiftImm (suc zero)) d n z h = two_number_reads (codes "lsrs") (of_two_number.ShiftImm 1) d n z (record { named = refl; kept = refl; clean = refl; brief = omega arith }) h.1 h.2 h.3 refl
two_number_lines (of_two_number.ShiftImm (suc (suc zero))) d n z h = two_number_reads (codes "asrs") (of_two_number.ShiftImm 2) d n z (record { named = refl; kept = refl; clean = refl; brief = omega arith }) h.1 h.2 h.3 refl
two_number_lines (of_two_number.ShiftImm (suc (suc (suc op)))) d n z h = absurd (h.0 refl)
