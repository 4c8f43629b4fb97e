-- Loads and stores, and the sum of registers: the forms of a word that the register sp decides between.
use Rattle.std.proofs.Common.{◌≡◌, ◌≢◌, ℕ, ◌<◌, Bool, true, false, List, [], ◌∷◌, Ok, ℤ, pos, refl, arith, codes}
use Rattle.asm_read.specs.declared.makes.Makes.TheVariants as makes
use Rattle.asm_statements.specs.declared.computation.OfTwoRegisters.TheVariants as of_two
use Rattle.asm_read.specs.declared.makes.Transfer.TheVariants as transfer
use Rattle.asm_statements.specs.declared.statement.StmtKind.TheVariants.{MemImm, MemReg, MemSp}
use Rattle.asm_read.specs.Operands.{same}
use Rattle.asm_read.specs.Forms.{directives, a_to_b, c_to_l, m_to_z, rows}
use Rattle.asm_line_laws.proofs.Pieces.{register_sp_number, sp_number as sp_number_pieces, two_registers, register_name, register_value, sp_offset as sp_offset_pieces, sp_alone, base_offset, base_alone, base_index}
use Rattle.asm_read.specs.Statements.{kind_of as kind_made}
use Rattle.asm_read.specs.Reading.{stmt, source_stmts}
use Rattle.asm_line_laws.specs.Written.{register, InRange, line, indexed_text, offset, sp_offset}
use Rattle.asm_line_laws.proofs.Toks.{by_register}
use Rattle.asm_line_laws.proofs.Items.{Item, reg, num, sign}
use Rattle.asm_line_laws.proofs.Fitted.{Vals, none_yet, Step, went, refused, if_so, and_then, fitted}
use Rattle.asm_line_laws.proofs.Standing.{values}
use Rattle.asm_line_laws.proofs.Chosen.{picked, chosen}
use Rattle.asm_line_laws.proofs.Shapes.{of_index, of_offset, of_sp_offset}

-- a piece that may go or not, and a rest that is refused
sp_then : (b : Bool) (ts : List Item) (v : Vals) (f : List Item → Vals → Step) → f ts v ≡ refused → and_then (if_so b ts v) f ≡ refused
sp_then true ts v f h = h
sp_then false ts v f h = refl

-- a piece that doesn't go
pub sp_not : (b : Bool) (ts : List Item) (v : Vals) (f : List Item → Vals → Step) → b ≡ false → and_then (if_so b ts v) f ≡ refused
sp_not b ts v f h = rw h refl

pub not_sp : (r : ℕ) → r < 16 → r ≢ 13 → same (register r) (codes "sp") ≡ false
unfolding register
not_sp = by_register (λ r. r ≢ 13 → same (register r) (codes "sp") ≡ false) (λ n. refl) (λ n. refl) (λ n. refl) (λ n. refl) (λ n. refl) (λ n. refl) (λ n. refl) (λ n. refl) (λ n. refl) (λ n. refl) (λ n. refl) (λ n. refl) (λ n. refl) (λ n. absurd (n refl)) (λ n. refl) (λ n. refl)

index_offset : (a b c : ℕ) → fitted sp_offset_pieces (reg a ∷ sign 44 ∷ sign 91 ∷ reg b ∷ sign 44 ∷ reg c ∷ sign 93 ∷ []) none_yet ≡ refused
unfolding fitted
index_offset a b c = sp_then (same (register b) (codes "sp")) _ _ _ refl

index_alone : (a b c : ℕ) → fitted sp_alone (reg a ∷ sign 44 ∷ sign 91 ∷ reg b ∷ sign 44 ∷ reg c ∷ sign 93 ∷ []) none_yet ≡ refused
unfolding fitted
index_alone a b c = sp_then (same (register b) (codes "sp")) _ _ _ refl

index_base_offset : (a b c : ℕ) → fitted base_offset (reg a ∷ sign 44 ∷ sign 91 ∷ reg b ∷ sign 44 ∷ reg c ∷ sign 93 ∷ []) none_yet ≡ refused
unfolding fitted
index_base_offset a b c = refl

index_base_alone : (a b c : ℕ) → fitted base_alone (reg a ∷ sign 44 ∷ sign 91 ∷ reg b ∷ sign 44 ∷ reg c ∷ sign 93 ∷ []) none_yet ≡ refused
unfolding fitted
index_base_alone a b c = refl

index_label : (a b c : ℕ) → fitted register_name (reg a ∷ sign 44 ∷ sign 91 ∷ reg b ∷ sign 44 ∷ reg c ∷ sign 93 ∷ []) none_yet ≡ refused
unfolding fitted
index_label a b c = refl

index_value : (a b c : ℕ) → fitted register_value (reg a ∷ sign 44 ∷ sign 91 ∷ reg b ∷ sign 44 ∷ reg c ∷ sign 93 ∷ []) none_yet ≡ refused
unfolding fitted
index_value a b c = refl

index_went : (a b c : ℕ) → fitted base_index (reg a ∷ sign 44 ∷ sign 91 ∷ reg b ∷ sign 44 ∷ reg c ∷ sign 93 ∷ []) none_yet ≡ went [] (values a b c (pos 0) [])
unfolding fitted
index_went a b c = refl

offset_offset : (a b : ℕ) (z : ℤ) → b < 16 → b ≢ 13 → fitted sp_offset_pieces (reg a ∷ sign 44 ∷ sign 91 ∷ reg b ∷ sign 44 ∷ sign 35 ∷ num z ∷ sign 93 ∷ []) none_yet ≡ refused
unfolding fitted
offset_offset a b z h n = sp_not (same (register b) (codes "sp")) _ _ _ (not_sp b h n)

offset_alone : (a b : ℕ) (z : ℤ) → fitted sp_alone (reg a ∷ sign 44 ∷ sign 91 ∷ reg b ∷ sign 44 ∷ sign 35 ∷ num z ∷ sign 93 ∷ []) none_yet ≡ refused
unfolding fitted
offset_alone a b z = sp_then (same (register b) (codes "sp")) _ _ _ refl

offset_label : (a b : ℕ) (z : ℤ) → fitted register_name (reg a ∷ sign 44 ∷ sign 91 ∷ reg b ∷ sign 44 ∷ sign 35 ∷ num z ∷ sign 93 ∷ []) none_yet ≡ refused
unfolding fitted
offset_label a b z = refl

offset_value : (a b : ℕ) (z : ℤ) → fitted register_value (reg a ∷ sign 44 ∷ sign 91 ∷ reg b ∷ sign 44 ∷ sign 35 ∷ num z ∷ sign 93 ∷ []) none_yet ≡ refused
unfolding fitted
offset_value a b z = refl

offset_went : (a b : ℕ) (z : ℤ) → fitted base_offset (reg a ∷ sign 44 ∷ sign 91 ∷ reg b ∷ sign 44 ∷ sign 35 ∷ num z ∷ sign 93 ∷ []) none_yet ≡ went [] (values a b 0 z [])
unfolding fitted
offset_went a b z = refl

add_sp_refused : (a b : ℕ) → fitted register_sp_number (reg a ∷ sign 44 ∷ reg b ∷ []) none_yet ≡ refused
unfolding fitted
add_sp_refused a b = sp_then (same (register b) (codes "sp")) _ _ _ refl

sp_number_refused : (a b : ℕ) → fitted sp_number_pieces (reg a ∷ sign 44 ∷ reg b ∷ []) none_yet ≡ refused
unfolding fitted
sp_number_refused a b = sp_then (same (register a) (codes "sp")) _ _ _ refl

two_went : (a b : ℕ) → fitted two_registers (reg a ∷ sign 44 ∷ reg b ∷ []) none_yet ≡ went [] (values a b 0 (pos 0) [])
unfolding fitted
two_went a b = refl

str_index : (a b c : ℕ) → chosen rows (codes "str") (reg a ∷ sign 44 ∷ sign 91 ∷ reg b ∷ sign 44 ∷ reg c ∷ sign 93 ∷ []) ≡ picked (makes.Transfers (transfer.MemReg 0)) (values a b c (pos 0) [])
unfolding rows directives a_to_b c_to_l m_to_z
str_index a b c = rw (index_offset a b c, index_alone a b c, index_base_offset a b c, index_base_alone a b c, index_went a b c) refl

ldr_index : (a b c : ℕ) → chosen rows (codes "ldr") (reg a ∷ sign 44 ∷ sign 91 ∷ reg b ∷ sign 44 ∷ reg c ∷ sign 93 ∷ []) ≡ picked (makes.Transfers (transfer.MemReg 4)) (values a b c (pos 0) [])
unfolding rows directives a_to_b c_to_l m_to_z
ldr_index a b c = rw (index_label a b c, index_value a b c, index_offset a b c, index_alone a b c, index_base_offset a b c, index_base_alone a b c, index_went a b c) refl

str_offset : (a b : ℕ) (z : ℤ) → b < 16 → b ≢ 13 → chosen rows (codes "str") (reg a ∷ sign 44 ∷ sign 91 ∷ reg b ∷ sign 44 ∷ sign 35 ∷ num z ∷ sign 93 ∷ []) ≡ picked (makes.Transfers (transfer.MemImm 0)) (values a b 0 z [])
unfolding rows directives a_to_b c_to_l m_to_z
str_offset a b z h n = rw (offset_offset a b z h n, offset_alone a b z, offset_went a b z) refl

ldr_offset : (a b : ℕ) (z : ℤ) → b < 16 → b ≢ 13 → chosen rows (codes "ldr") (reg a ∷ sign 44 ∷ sign 91 ∷ reg b ∷ sign 44 ∷ sign 35 ∷ num z ∷ sign 93 ∷ []) ≡ picked (makes.Transfers (transfer.MemImm 1)) (values a b 0 z [])
unfolding rows directives a_to_b c_to_l m_to_z
ldr_offset a b z h n = rw (offset_label a b z, offset_value a b z, offset_offset a b z h n, offset_alone a b z, offset_went a b z) refl

pub add_rows : (a b : ℕ) → chosen rows (codes "add") (reg a ∷ sign 44 ∷ reg b ∷ []) ≡ picked (makes.OfTwoRegisters of_two.AddReg) (values a b 0 (pos 0) [])
unfolding rows directives a_to_b c_to_l m_to_z
add_rows a b = rw (add_sp_refused a b, sp_number_refused a b, two_went a b) refl

pub str_index_line : (a b c : ℕ) → a < 16 → b < 16 → c < 16 → source_stmts (line (codes "str") (indexed_text a b c)) ≡ Ok (stmt 1 (MemReg 0 a b c) ∷ [])
unfolding kind_made
str_index_line a b c ha hb hc = of_index (codes "str") (makes.Transfers (transfer.MemReg 0)) (MemReg 0 a b c) a b c (record { named = refl; kept = refl; clean = refl; brief = omega arith }) ha hb hc (str_index a b c) (λ text o g. cc (g.first, g.second, g.third))

pub strh_index_line : (a : ℕ) (b : ℕ) (c : ℕ) → a < 16 → b < 16 → c < 16 → source_stmts (line (codes "strh") (indexed_text a b c)) ≡ Ok (stmt 1 (MemReg 1 a b c) ∷ [])
unfolding rows directives a_to_b c_to_l m_to_z fitted kind_made
strh_index_line a b c ha hb hc = of_index (codes "strh") (makes.Transfers (transfer.MemReg 1)) (MemReg 1 a b c) a b c (record { named = refl; kept = refl; clean = refl; brief = omega arith }) ha hb hc refl (λ text o g. cc (g.first, g.second, g.third))

pub strb_index_line : (a : ℕ) (b : ℕ) (c : ℕ) → a < 16 → b < 16 → c < 16 → source_stmts (line (codes "strb") (indexed_text a b c)) ≡ Ok (stmt 1 (MemReg 2 a b c) ∷ [])
unfolding rows directives a_to_b c_to_l m_to_z fitted kind_made
strb_index_line a b c ha hb hc = of_index (codes "strb") (makes.Transfers (transfer.MemReg 2)) (MemReg 2 a b c) a b c (record { named = refl; kept = refl; clean = refl; brief = omega arith }) ha hb hc refl (λ text o g. cc (g.first, g.second, g.third))

pub ldrsb_index_line : (a : ℕ) (b : ℕ) (c : ℕ) → a < 16 → b < 16 → c < 16 → source_stmts (line (codes "ldrsb") (indexed_text a b c)) ≡ Ok (stmt 1 (MemReg 3 a b c) ∷ [])
unfolding rows directives a_to_b c_to_l m_to_z fitted kind_made
ldrsb_index_line a b c ha hb hc = of_index (codes "ldrsb") (makes.Transfers (transfer.MemReg 3)) (MemReg 3 a b c) a b c (record { named = refl; kept = refl; clean = refl; brief = omega arith }) ha hb hc refl (λ text o g. cc (g.first, g.second, g.third))

pub ldr_index_line : (a b c : ℕ) → a < 16 → b < 16 → c < 16 → source_stmts (line (codes "ldr") (indexed_text a b c)) ≡ Ok (stmt 1 (MemReg 4 a b c) ∷ [])
unfolding kind_made
ldr_index_line a b c ha hb hc = of_index (codes "ldr") (makes.Transfers (transfer.MemReg 4)) (MemReg 4 a b c) a b c (record { named = refl; kept = refl; clean = refl; brief = omega arith }) ha hb hc (ldr_index a b c) (λ text o g. cc (g.first, g.second, g.third))

pub ldrh_index_line : (a : ℕ) (b : ℕ) (c : ℕ) → a < 16 → b < 16 → c < 16 → source_stmts (line (codes "ldrh") (indexed_text a b c)) ≡ Ok (stmt 1 (MemReg 5 a b c) ∷ [])
unfolding rows directives a_to_b c_to_l m_to_z fitted kind_made
ldrh_index_line a b c ha hb hc = of_index (codes "ldrh") (makes.Transfers (transfer.MemReg 5)) (MemReg 5 a b c) a b c (record { named = refl; kept = refl; clean = refl; brief = omega arith }) ha hb hc refl (λ text o g. cc (g.first, g.second, g.third))

pub ldrb_index_line : (a : ℕ) (b : ℕ) (c : ℕ) → a < 16 → b < 16 → c < 16 → source_stmts (line (codes "ldrb") (indexed_text a b c)) ≡ Ok (stmt 1 (MemReg 6 a b c) ∷ [])
unfolding rows directives a_to_b c_to_l m_to_z fitted kind_made
ldrb_index_line a b c ha hb hc = of_index (codes "ldrb") (makes.Transfers (transfer.MemReg 6)) (MemReg 6 a b c) a b c (record { named = refl; kept = refl; clean = refl; brief = omega arith }) ha hb hc refl (λ text o g. cc (g.first, g.second, g.third))

pub ldrsh_index_line : (a : ℕ) (b : ℕ) (c : ℕ) → a < 16 → b < 16 → c < 16 → source_stmts (line (codes "ldrsh") (indexed_text a b c)) ≡ Ok (stmt 1 (MemReg 7 a b c) ∷ [])
unfolding rows directives a_to_b c_to_l m_to_z fitted kind_made
ldrsh_index_line a b c ha hb hc = of_index (codes "ldrsh") (makes.Transfers (transfer.MemReg 7)) (MemReg 7 a b c) a b c (record { named = refl; kept = refl; clean = refl; brief = omega arith }) ha hb hc refl (λ text o g. cc (g.first, g.second, g.third))

pub str_offset_line : (a b : ℕ) (z : ℤ) → a < 16 → b < 16 → InRange z → b ≢ 13 → source_stmts (line (codes "str") (offset a b z)) ≡ Ok (stmt 1 (MemImm 0 a b z) ∷ [])
unfolding kind_made
str_offset_line a b z ha hb hz n = of_offset (codes "str") (makes.Transfers (transfer.MemImm 0)) (MemImm 0 a b z) a b z (record { named = refl; kept = refl; clean = refl; brief = omega arith }) ha hb hz (str_offset a b z hb n) (λ text o g. cc (g.first, g.second, g.number))

pub ldr_offset_line : (a b : ℕ) (z : ℤ) → a < 16 → b < 16 → InRange z → b ≢ 13 → source_stmts (line (codes "ldr") (offset a b z)) ≡ Ok (stmt 1 (MemImm 1 a b z) ∷ [])
unfolding kind_made
ldr_offset_line a b z ha hb hz n = of_offset (codes "ldr") (makes.Transfers (transfer.MemImm 1)) (MemImm 1 a b z) a b z (record { named = refl; kept = refl; clean = refl; brief = omega arith }) ha hb hz (ldr_offset a b z hb n) (λ text o g. cc (g.first, g.second, g.number))

pub strb_offset_line : (a : ℕ) (b : ℕ) (z : ℤ) → a < 16 → b < 16 → InRange z → source_stmts (line (codes "strb") (offset a b z)) ≡ Ok (stmt 1 (MemImm 2 a b z) ∷ [])
unfolding rows directives a_to_b c_to_l m_to_z fitted kind_made
strb_offset_line a b z ha hb hz = of_offset (codes "strb") (makes.Transfers (transfer.MemImm 2)) (MemImm 2 a b z) a b z (record { named = refl; kept = refl; clean = refl; brief = omega arith }) ha hb hz refl (λ text o g. cc (g.first, g.second, g.number))

pub ldrb_offset_line : (a : ℕ) (b : ℕ) (z : ℤ) → a < 16 → b < 16 → InRange z → source_stmts (line (codes "ldrb") (offset a b z)) ≡ Ok (stmt 1 (MemImm 3 a b z) ∷ [])
unfolding rows directives a_to_b c_to_l m_to_z fitted kind_made
ldrb_offset_line a b z ha hb hz = of_offset (codes "ldrb") (makes.Transfers (transfer.MemImm 3)) (MemImm 3 a b z) a b z (record { named = refl; kept = refl; clean = refl; brief = omega arith }) ha hb hz refl (λ text o g. cc (g.first, g.second, g.number))

pub strh_offset_line : (a : ℕ) (b : ℕ) (z : ℤ) → a < 16 → b < 16 → InRange z → source_stmts (line (codes "strh") (offset a b z)) ≡ Ok (stmt 1 (MemImm 4 a b z) ∷ [])
unfolding rows directives a_to_b c_to_l m_to_z fitted kind_made
strh_offset_line a b z ha hb hz = of_offset (codes "strh") (makes.Transfers (transfer.MemImm 4)) (MemImm 4 a b z) a b z (record { named = refl; kept = refl; clean = refl; brief = omega arith }) ha hb hz refl (λ text o g. cc (g.first, g.second, g.number))

pub ldrh_offset_line : (a : ℕ) (b : ℕ) (z : ℤ) → a < 16 → b < 16 → InRange z → source_stmts (line (codes "ldrh") (offset a b z)) ≡ Ok (stmt 1 (MemImm 5 a b z) ∷ [])
unfolding rows directives a_to_b c_to_l m_to_z fitted kind_made
ldrh_offset_line a b z ha hb hz = of_offset (codes "ldrh") (makes.Transfers (transfer.MemImm 5)) (MemImm 5 a b z) a b z (record { named = refl; kept = refl; clean = refl; brief = omega arith }) ha hb hz refl (λ text o g. cc (g.first, g.second, g.number))

pub ldr_sp_line : (a : ℕ) (z : ℤ) → a < 16 → InRange z → source_stmts (line (codes "ldr") (sp_offset a z)) ≡ Ok (stmt 1 (MemSp true a z) ∷ [])
unfolding rows directives a_to_b c_to_l m_to_z fitted kind_made
ldr_sp_line a z ha hz = of_sp_offset (codes "ldr") (makes.Transfers (transfer.MemSp true)) (MemSp true a z) a z (record { named = refl; kept = refl; clean = refl; brief = omega arith }) ha hz refl (λ text o g. cc (g.first, g.number))

pub str_sp_line : (a : ℕ) (z : ℤ) → a < 16 → InRange z → source_stmts (line (codes "str") (sp_offset a z)) ≡ Ok (stmt 1 (MemSp false a z) ∷ [])
unfolding rows directives a_to_b c_to_l m_to_z fitted kind_made
str_sp_line a z ha hz = of_sp_offset (codes "str") (makes.Transfers (transfer.MemSp false)) (MemSp false a z) a z (record { named = refl; kept = refl; clean = refl; brief = omega arith }) ha hz refl (λ text o g. cc (g.first, g.number))
