-- Other lines of a statement: other names of its word, numbers with and without a #, and addresses without an offset.
use Rattle.std.proofs.Common.{◌≡◌, ◌≢◌, ℕ, zero, suc, ◌<◌, true, false, List, [], ◌∷◌, Ok, ℤ, pos, negsuc, refl, ap, arith, codes}
use Rattle.std.specs.Fmt.{signed_decimal}
use Rattle.asm_read.specs.declared.form.Operands.{Operands}
use Rattle.asm_read.specs.declared.makes.Makes.{Makes}
use Rattle.asm_read.specs.declared.makes.Makes.TheVariants as makes
use Rattle.asm_read.specs.declared.makes.Transfer.TheVariants as transfer
use Rattle.asm_read.specs.declared.makes.Directive.TheVariants as directive
use Rattle.asm_read.specs.declared.makes.Named.TheVariants as name
use Rattle.asm_statements.specs.declared.statement.Expr.{Expr}
use Rattle.asm_statements.specs.declared.statement.StmtKind.{StmtKind}
use Rattle.asm_statements.specs.declared.statement.StmtKind.TheVariants.{MemImm, MemSp, BCond, Global, Words, Halves, Space, Align, Pool, Pad, SetFp, PersonalityIndex}
use Rattle.asm_read.specs.Operands.{same}
use Rattle.asm_read.specs.Forms.{directives, a_to_b, c_to_l, m_to_z, rows}
use Rattle.asm_line_laws.proofs.Pieces.{register_name, register_value, sp_offset as sp_offset_pieces, sp_alone, base_offset, base_alone}
use Rattle.asm_read.specs.Statements.{kind_of as kind_made}
use Rattle.asm_read.specs.Reading.{stmt, source_stmts}
use Rattle.asm_line_laws.specs.Written.{register, InRange, IsNameText, IsList, IsWritable, AllRead, other_lines, line, hash, address, sp_address, sp_count_plain, expressions}
use Rattle.asm_line_laws.proofs.Items.{reg, num, sign}
use Rattle.asm_line_laws.proofs.Fitted.{none_yet, Agrees, went, refused, fitted}
use Rattle.asm_line_laws.proofs.Chosen.{picked, chosen}
use Rattle.asm_line_laws.proofs.Standing.{cost, costs, IsMnemonic, stands, alone, comma_ends, open_ends, close_ends, sp, values}
use Rattle.asm_line_laws.proofs.Shapes.{of_name, of_number, of_hash}
use Rattle.asm_line_laws.proofs.Accesses.{sp_not, not_sp}
use Rattle.asm_line_laws.proofs.Expressing.{of_values}

of_address : (w : List ℕ) (m : Makes) (k : StmtKind) (a b : ℕ) → IsMnemonic w → a < 16 → b < 16 → chosen rows w (reg a ∷ sign 44 ∷ sign 91 ∷ reg b ∷ sign 93 ∷ []) ≡ picked m (values a b 0 (pos 0) []) → ((text : List ℕ) (o : Operands) → Agrees text o (values a b 0 (pos 0) []) → kind_made text (record { makes = m; operands = o }) ≡ k) → source_stmts (line w (address a b)) ≡ Ok (stmt 1 k ∷ [])
unfolding cost costs
of_address w m k a b is ha hb choice makes = stands w (reg a ∷ sign 44 ∷ sign 91 ∷ reg b ∷ sign 93 ∷ []) m (values a b 0 (pos 0) []) k is (omega arith) ((ha, refl), (comma_ends _, (open_ends _, ((hb, refl), (close_ends _, tt))))) refl (omega arith) choice makes

of_sp_address : (w : List ℕ) (m : Makes) (k : StmtKind) (a : ℕ) → IsMnemonic w → a < 16 → chosen rows w (reg a ∷ sign 44 ∷ sign 91 ∷ sp ∷ sign 93 ∷ []) ≡ picked m (values a 0 0 (pos 0) []) → ((text : List ℕ) (o : Operands) → Agrees text o (values a 0 0 (pos 0) []) → kind_made text (record { makes = m; operands = o }) ≡ k) → source_stmts (line w (sp_address a)) ≡ Ok (stmt 1 k ∷ [])
unfolding cost costs
of_sp_address w m k a is ha choice makes = stands w (reg a ∷ sign 44 ∷ sign 91 ∷ sp ∷ sign 93 ∷ []) m (values a 0 0 (pos 0) []) k is (omega arith) ((ha, refl), (comma_ends _, (open_ends _, ((refl, refl), (close_ends _, tt))))) refl (omega arith) choice makes

of_sp_plain : (w : List ℕ) (m : Makes) (k : StmtKind) (a : ℕ) (z : ℤ) → IsMnemonic w → a < 16 → InRange z → chosen rows w (reg a ∷ sign 44 ∷ sp ∷ sign 44 ∷ num z ∷ []) ≡ picked m (values a 0 0 z []) → ((text : List ℕ) (o : Operands) → Agrees text o (values a 0 0 z []) → kind_made text (record { makes = m; operands = o }) ≡ k) → source_stmts (line w (sp_count_plain a z)) ≡ Ok (stmt 1 k ∷ [])
unfolding cost costs
of_sp_plain w m k a z is ha hz choice makes = stands w (reg a ∷ sign 44 ∷ sp ∷ sign 44 ∷ num z ∷ []) m (values a 0 0 z []) k is (omega arith) ((ha, refl), (comma_ends _, ((refl, refl), (comma_ends _, ((hz, refl), tt))))) refl (omega arith) choice makes

address_offset : (a b : ℕ) → b < 16 → b ≢ 13 → fitted sp_offset_pieces (reg a ∷ sign 44 ∷ sign 91 ∷ reg b ∷ sign 93 ∷ []) none_yet ≡ refused
unfolding fitted
address_offset a b h n = sp_not (same (register b) (codes "sp")) _ _ _ (not_sp b h n)

address_alone : (a b : ℕ) → b < 16 → b ≢ 13 → fitted sp_alone (reg a ∷ sign 44 ∷ sign 91 ∷ reg b ∷ sign 93 ∷ []) none_yet ≡ refused
unfolding fitted
address_alone a b h n = sp_not (same (register b) (codes "sp")) _ _ _ (not_sp b h n)

address_label : (a b : ℕ) → fitted register_name (reg a ∷ sign 44 ∷ sign 91 ∷ reg b ∷ sign 93 ∷ []) none_yet ≡ refused
unfolding fitted
address_label a b = refl

address_value : (a b : ℕ) → fitted register_value (reg a ∷ sign 44 ∷ sign 91 ∷ reg b ∷ sign 93 ∷ []) none_yet ≡ refused
unfolding fitted
address_value a b = refl

address_base : (a b : ℕ) → fitted base_offset (reg a ∷ sign 44 ∷ sign 91 ∷ reg b ∷ sign 93 ∷ []) none_yet ≡ refused
unfolding fitted
address_base a b = refl

address_went : (a b : ℕ) → fitted base_alone (reg a ∷ sign 44 ∷ sign 91 ∷ reg b ∷ sign 93 ∷ []) none_yet ≡ went [] (values a b 0 (pos 0) [])
unfolding fitted
address_went a b = refl

str_address : (a b : ℕ) → b < 16 → b ≢ 13 → chosen rows (codes "str") (reg a ∷ sign 44 ∷ sign 91 ∷ reg b ∷ sign 93 ∷ []) ≡ picked (makes.Transfers (transfer.MemImm 0)) (values a b 0 (pos 0) [])
unfolding rows directives a_to_b c_to_l m_to_z
str_address a b h n = rw (address_offset a b h n, address_alone a b h n, address_base a b, address_went a b) refl

ldr_address : (a b : ℕ) → b < 16 → b ≢ 13 → chosen rows (codes "ldr") (reg a ∷ sign 44 ∷ sign 91 ∷ reg b ∷ sign 93 ∷ []) ≡ picked (makes.Transfers (transfer.MemImm 1)) (values a b 0 (pos 0) [])
unfolding rows directives a_to_b c_to_l m_to_z
ldr_address a b h n = rw (address_label a b, address_value a b, address_offset a b h n, address_alone a b h n, address_base a b, address_went a b) refl

str_line : (a b : ℕ) → a < 16 → b < 16 → b ≢ 13 → source_stmts (line (codes "str") (address a b)) ≡ Ok (stmt 1 (MemImm 0 a b (pos 0)) ∷ [])
unfolding kind_made
str_line a b ha hb n = of_address (codes "str") (makes.Transfers (transfer.MemImm 0)) (MemImm 0 a b (pos 0)) a b (record { named = refl; kept = refl; clean = refl; brief = omega arith }) ha hb (str_address a b hb n) (λ text o g. cc (g.first, g.second, g.number))

ldr_line : (a b : ℕ) → a < 16 → b < 16 → b ≢ 13 → source_stmts (line (codes "ldr") (address a b)) ≡ Ok (stmt 1 (MemImm 1 a b (pos 0)) ∷ [])
unfolding kind_made
ldr_line a b ha hb n = of_address (codes "ldr") (makes.Transfers (transfer.MemImm 1)) (MemImm 1 a b (pos 0)) a b (record { named = refl; kept = refl; clean = refl; brief = omega arith }) ha hb (ldr_address a b hb n) (λ text o g. cc (g.first, g.second, g.number))

strb_line : (a b : ℕ) → a < 16 → b < 16 → source_stmts (line (codes "strb") (address a b)) ≡ Ok (stmt 1 (MemImm 2 a b (pos 0)) ∷ [])
unfolding rows directives a_to_b c_to_l m_to_z fitted kind_made
strb_line a b ha hb = of_address (codes "strb") (makes.Transfers (transfer.MemImm 2)) (MemImm 2 a b (pos 0)) a b (record { named = refl; kept = refl; clean = refl; brief = omega arith }) ha hb refl (λ text o g. cc (g.first, g.second, g.number))

ldrb_line : (a b : ℕ) → a < 16 → b < 16 → source_stmts (line (codes "ldrb") (address a b)) ≡ Ok (stmt 1 (MemImm 3 a b (pos 0)) ∷ [])
unfolding rows directives a_to_b c_to_l m_to_z fitted kind_made
ldrb_line a b ha hb = of_address (codes "ldrb") (makes.Transfers (transfer.MemImm 3)) (MemImm 3 a b (pos 0)) a b (record { named = refl; kept = refl; clean = refl; brief = omega arith }) ha hb refl (λ text o g. cc (g.first, g.second, g.number))

strh_line : (a b : ℕ) → a < 16 → b < 16 → source_stmts (line (codes "strh") (address a b)) ≡ Ok (stmt 1 (MemImm 4 a b (pos 0)) ∷ [])
unfolding rows directives a_to_b c_to_l m_to_z fitted kind_made
strh_line a b ha hb = of_address (codes "strh") (makes.Transfers (transfer.MemImm 4)) (MemImm 4 a b (pos 0)) a b (record { named = refl; kept = refl; clean = refl; brief = omega arith }) ha hb refl (λ text o g. cc (g.first, g.second, g.number))

ldrh_line : (a b : ℕ) → a < 16 → b < 16 → source_stmts (line (codes "ldrh") (address a b)) ≡ Ok (stmt 1 (MemImm 5 a b (pos 0)) ∷ [])
unfolding rows directives a_to_b c_to_l m_to_z fitted kind_made
ldrh_line a b ha hb = of_address (codes "ldrh") (makes.Transfers (transfer.MemImm 5)) (MemImm 5 a b (pos 0)) a b (record { named = refl; kept = refl; clean = refl; brief = omega arith }) ha hb refl (λ text o g. cc (g.first, g.second, g.number))

ldr_sp_line : (a : ℕ) → a < 16 → source_stmts (line (codes "ldr") (sp_address a)) ≡ Ok (stmt 1 (MemSp true a (pos 0)) ∷ [])
unfolding rows directives a_to_b c_to_l m_to_z fitted kind_made
ldr_sp_line a ha = of_sp_address (codes "ldr") (makes.Transfers (transfer.MemSp true)) (MemSp true a (pos 0)) a (record { named = refl; kept = refl; clean = refl; brief = omega arith }) ha refl (λ text o g. cc (g.first, g.number))

str_sp_line : (a : ℕ) → a < 16 → source_stmts (line (codes "str") (sp_address a)) ≡ Ok (stmt 1 (MemSp false a (pos 0)) ∷ [])
unfolding rows directives a_to_b c_to_l m_to_z fitted kind_made
str_sp_line a ha = of_sp_address (codes "str") (makes.Transfers (transfer.MemSp false)) (MemSp false a (pos 0)) a (record { named = refl; kept = refl; clean = refl; brief = omega arith }) ha refl (λ text o g. cc (g.first, g.number))

bhs_line : (n : List ℕ) → IsNameText n → source_stmts (line (codes "bhs") n) ≡ Ok (stmt 1 (BCond 2 n) ∷ [])
unfolding rows directives a_to_b c_to_l m_to_z fitted kind_made
bhs_line n hn = of_name (codes "bhs") (makes.Names (name.BCond 2)) (BCond 2 n) n (record { named = refl; kept = refl; clean = refl; brief = omega arith }) hn refl (λ text o g. cc (g.name))

blo_line : (n : List ℕ) → IsNameText n → source_stmts (line (codes "blo") n) ≡ Ok (stmt 1 (BCond 3 n) ∷ [])
unfolding rows directives a_to_b c_to_l m_to_z fitted kind_made
blo_line n hn = of_name (codes "blo") (makes.Names (name.BCond 3)) (BCond 3 n) n (record { named = refl; kept = refl; clean = refl; brief = omega arith }) hn refl (λ text o g. cc (g.name))

globl_line : (n : List ℕ) → IsNameText n → source_stmts (line (codes ".globl") n) ≡ Ok (stmt 1 (Global n) ∷ [])
unfolding rows directives a_to_b c_to_l m_to_z fitted kind_made
globl_line n hn = of_name (codes ".globl") (makes.Names name.Global) (Global n) n (record { named = refl; kept = refl; clean = refl; brief = omega arith }) hn refl (λ text o g. cc (g.name))

ltorg_line : source_stmts (codes ".ltorg") ≡ Ok (stmt 1 Pool ∷ [])
unfolding rows directives a_to_b c_to_l m_to_z fitted kind_made
ltorg_line = alone (codes ".ltorg") (makes.Directs directive.Pool) Pool (record { named = refl; kept = refl; clean = refl; brief = omega arith }) refl (λ text o. refl)

space_hash_line : (z : ℤ) → InRange z → source_stmts (line (codes ".space") (hash z)) ≡ Ok (stmt 1 (Space z) ∷ [])
unfolding rows directives a_to_b c_to_l m_to_z fitted kind_made
space_hash_line z hz = of_hash (codes ".space") (makes.Directs directive.Space) (Space z) z (record { named = refl; kept = refl; clean = refl; brief = omega arith }) hz refl (λ text o g. cc (g.number))

zero_plain_line : (z : ℤ) → InRange z → source_stmts (line (codes ".zero") (signed_decimal z)) ≡ Ok (stmt 1 (Space z) ∷ [])
unfolding rows directives a_to_b c_to_l m_to_z fitted kind_made
zero_plain_line z hz = of_number (codes ".zero") (makes.Directs directive.Space) (Space z) z (record { named = refl; kept = refl; clean = refl; brief = omega arith }) hz refl (λ text o g. cc (g.number))

zero_hash_line : (z : ℤ) → InRange z → source_stmts (line (codes ".zero") (hash z)) ≡ Ok (stmt 1 (Space z) ∷ [])
unfolding rows directives a_to_b c_to_l m_to_z fitted kind_made
zero_hash_line z hz = of_hash (codes ".zero") (makes.Directs directive.Space) (Space z) z (record { named = refl; kept = refl; clean = refl; brief = omega arith }) hz refl (λ text o g. cc (g.number))

pad_line : (z : ℤ) → InRange z → source_stmts (line (codes ".pad") (signed_decimal z)) ≡ Ok (stmt 1 (Pad z) ∷ [])
unfolding rows directives a_to_b c_to_l m_to_z fitted kind_made
pad_line z hz = of_number (codes ".pad") (makes.Directs directive.Pad) (Pad z) z (record { named = refl; kept = refl; clean = refl; brief = omega arith }) hz refl (λ text o g. cc (g.number))

index_line : (z : ℤ) → InRange z → source_stmts (line (codes ".personalityindex") (hash z)) ≡ Ok (stmt 1 (PersonalityIndex z) ∷ [])
unfolding rows directives a_to_b c_to_l m_to_z fitted kind_made
index_line z hz = of_hash (codes ".personalityindex") (makes.Directs directive.PersonalityIndex) (PersonalityIndex z) z (record { named = refl; kept = refl; clean = refl; brief = omega arith }) hz refl (λ text o g. cc (g.number))

setfp_line : (a : ℕ) (z : ℤ) → a < 16 → InRange z → source_stmts (line (codes ".setfp") (sp_count_plain a z)) ≡ Ok (stmt 1 (SetFp a z) ∷ [])
unfolding rows directives a_to_b c_to_l m_to_z fitted kind_made
setfp_line a z ha hz = of_sp_plain (codes ".setfp") (makes.Directs directive.SetFp) (SetFp a z) a z (record { named = refl; kept = refl; clean = refl; brief = omega arith }) ha hz refl (λ text o g. cc (g.first, g.number))

align_hash_0 : source_stmts (line (codes ".align") (hash (pos 0))) ≡ Ok (stmt 1 (Align (pos 0)) ∷ [])
unfolding rows directives a_to_b c_to_l m_to_z fitted kind_made
align_hash_0 = of_hash (codes ".align") (makes.Directs directive.Align) (Align (pos 0)) (pos 0) (record { named = refl; kept = refl; clean = refl; brief = omega arith }) (omega arith) refl (λ text o g. cc (g.number))

align_hash_1 : source_stmts (line (codes ".align") (hash (pos 1))) ≡ Ok (stmt 1 (Align (pos 1)) ∷ [])
unfolding rows directives a_to_b c_to_l m_to_z fitted kind_made
align_hash_1 = of_hash (codes ".align") (makes.Directs directive.Align) (Align (pos 1)) (pos 1) (record { named = refl; kept = refl; clean = refl; brief = omega arith }) (omega arith) refl (λ text o g. cc (g.number))

align_hash_2 : source_stmts (line (codes ".align") (hash (pos 2))) ≡ Ok (stmt 1 (Align (pos 2)) ∷ [])
unfolding rows directives a_to_b c_to_l m_to_z fitted kind_made
align_hash_2 = of_hash (codes ".align") (makes.Directs directive.Align) (Align (pos 2)) (pos 2) (record { named = refl; kept = refl; clean = refl; brief = omega arith }) (omega arith) refl (λ text o g. cc (g.number))

align_hash_3 : source_stmts (line (codes ".align") (hash (pos 3))) ≡ Ok (stmt 1 (Align (pos 3)) ∷ [])
unfolding rows directives a_to_b c_to_l m_to_z fitted kind_made
align_hash_3 = of_hash (codes ".align") (makes.Directs directive.Align) (Align (pos 3)) (pos 3) (record { named = refl; kept = refl; clean = refl; brief = omega arith }) (omega arith) refl (λ text o g. cc (g.number))

align_hash_line : (n : ℕ) → n < 4 → source_stmts (line (codes ".align") (hash (pos n))) ≡ Ok (stmt 1 (Align (pos n)) ∷ [])
align_hash_line zero h = align_hash_0
align_hash_line (suc zero) h = align_hash_1
align_hash_line (suc (suc zero)) h = align_hash_2
align_hash_line (suc (suc (suc zero))) h = align_hash_3
align_hash_line (suc (suc (suc (suc n)))) h = absurd (omega arith)

power_0 : source_stmts (line (codes ".p2align") (signed_decimal (pos 0))) ≡ Ok (stmt 1 (Align (pos 0)) ∷ [])
unfolding rows directives a_to_b c_to_l m_to_z fitted kind_made
power_0 = of_number (codes ".p2align") (makes.Directs directive.Align) (Align (pos 0)) (pos 0) (record { named = refl; kept = refl; clean = refl; brief = omega arith }) (omega arith) refl (λ text o g. cc (g.number))

power_1 : source_stmts (line (codes ".p2align") (signed_decimal (pos 1))) ≡ Ok (stmt 1 (Align (pos 1)) ∷ [])
unfolding rows directives a_to_b c_to_l m_to_z fitted kind_made
power_1 = of_number (codes ".p2align") (makes.Directs directive.Align) (Align (pos 1)) (pos 1) (record { named = refl; kept = refl; clean = refl; brief = omega arith }) (omega arith) refl (λ text o g. cc (g.number))

power_2 : source_stmts (line (codes ".p2align") (signed_decimal (pos 2))) ≡ Ok (stmt 1 (Align (pos 2)) ∷ [])
unfolding rows directives a_to_b c_to_l m_to_z fitted kind_made
power_2 = of_number (codes ".p2align") (makes.Directs directive.Align) (Align (pos 2)) (pos 2) (record { named = refl; kept = refl; clean = refl; brief = omega arith }) (omega arith) refl (λ text o g. cc (g.number))

power_3 : source_stmts (line (codes ".p2align") (signed_decimal (pos 3))) ≡ Ok (stmt 1 (Align (pos 3)) ∷ [])
unfolding rows directives a_to_b c_to_l m_to_z fitted kind_made
power_3 = of_number (codes ".p2align") (makes.Directs directive.Align) (Align (pos 3)) (pos 3) (record { named = refl; kept = refl; clean = refl; brief = omega arith }) (omega arith) refl (λ text o g. cc (g.number))

power_line : (n : ℕ) → n < 4 → source_stmts (line (codes ".p2align") (signed_decimal (pos n))) ≡ Ok (stmt 1 (Align (pos n)) ∷ [])
power_line zero h = power_0
power_line (suc zero) h = power_1
power_line (suc (suc zero)) h = power_2
power_line (suc (suc (suc zero))) h = power_3
power_line (suc (suc (suc (suc n)))) h = absurd (omega arith)

power_hash_0 : source_stmts (line (codes ".p2align") (hash (pos 0))) ≡ Ok (stmt 1 (Align (pos 0)) ∷ [])
unfolding rows directives a_to_b c_to_l m_to_z fitted kind_made
power_hash_0 = of_hash (codes ".p2align") (makes.Directs directive.Align) (Align (pos 0)) (pos 0) (record { named = refl; kept = refl; clean = refl; brief = omega arith }) (omega arith) refl (λ text o g. cc (g.number))

power_hash_1 : source_stmts (line (codes ".p2align") (hash (pos 1))) ≡ Ok (stmt 1 (Align (pos 1)) ∷ [])
unfolding rows directives a_to_b c_to_l m_to_z fitted kind_made
power_hash_1 = of_hash (codes ".p2align") (makes.Directs directive.Align) (Align (pos 1)) (pos 1) (record { named = refl; kept = refl; clean = refl; brief = omega arith }) (omega arith) refl (λ text o g. cc (g.number))

power_hash_2 : source_stmts (line (codes ".p2align") (hash (pos 2))) ≡ Ok (stmt 1 (Align (pos 2)) ∷ [])
unfolding rows directives a_to_b c_to_l m_to_z fitted kind_made
power_hash_2 = of_hash (codes ".p2align") (makes.Directs directive.Align) (Align (pos 2)) (pos 2) (record { named = refl; kept = refl; clean = refl; brief = omega arith }) (omega arith) refl (λ text o g. cc (g.number))

power_hash_3 : source_stmts (line (codes ".p2align") (hash (pos 3))) ≡ Ok (stmt 1 (Align (pos 3)) ∷ [])
unfolding rows directives a_to_b c_to_l m_to_z fitted kind_made
power_hash_3 = of_hash (codes ".p2align") (makes.Directs directive.Align) (Align (pos 3)) (pos 3) (record { named = refl; kept = refl; clean = refl; brief = omega arith }) (omega arith) refl (λ text o g. cc (g.number))

power_hash_line : (n : ℕ) → n < 4 → source_stmts (line (codes ".p2align") (hash (pos n))) ≡ Ok (stmt 1 (Align (pos n)) ∷ [])
power_hash_line zero h = power_hash_0
power_hash_line (suc zero) h = power_hash_1
power_hash_line (suc (suc zero)) h = power_hash_2
power_hash_line (suc (suc (suc zero))) h = power_hash_3
power_hash_line (suc (suc (suc (suc n)))) h = absurd (omega arith)

long_line : (es : List Expr) → IsList true es → source_stmts (line (codes ".long") (expressions es)) ≡ Ok (stmt 1 (Words es) ∷ [])
unfolding rows directives a_to_b c_to_l m_to_z fitted kind_made
long_line [] h = absurd h
long_line (e ∷ es) h = of_values true (codes ".long") (makes.Names name.Words) (Words (e ∷ es)) e es (record { named = refl; kept = refl; clean = refl; brief = omega arith }) (omega arith) h refl (λ text o g. ap (λ x. Words x) g.value)

four_line : (es : List Expr) → IsList true es → source_stmts (line (codes ".4byte") (expressions es)) ≡ Ok (stmt 1 (Words es) ∷ [])
unfolding rows directives a_to_b c_to_l m_to_z fitted kind_made
four_line [] h = absurd h
four_line (e ∷ es) h = of_values true (codes ".4byte") (makes.Names name.Words) (Words (e ∷ es)) e es (record { named = refl; kept = refl; clean = refl; brief = omega arith }) (omega arith) h refl (λ text o g. ap (λ x. Words x) g.value)

short_line : (es : List Expr) → IsList false es → source_stmts (line (codes ".short") (expressions es)) ≡ Ok (stmt 1 (Halves es) ∷ [])
unfolding rows directives a_to_b c_to_l m_to_z fitted kind_made
short_line [] h = absurd h
short_line (e ∷ es) h = of_values false (codes ".short") (makes.Names name.Halves) (Halves (e ∷ es)) e es (record { named = refl; kept = refl; clean = refl; brief = omega arith }) (omega arith) h refl (λ text o g. ap (λ x. Halves x) g.value)

twice_line : (es : List Expr) → IsList false es → source_stmts (line (codes ".2byte") (expressions es)) ≡ Ok (stmt 1 (Halves es) ∷ [])
unfolding rows directives a_to_b c_to_l m_to_z fitted kind_made
twice_line [] h = absurd h
twice_line (e ∷ es) h = of_values false (codes ".2byte") (makes.Names name.Halves) (Halves (e ∷ es)) e es (record { named = refl; kept = refl; clean = refl; brief = omega arith }) (omega arith) h refl (λ text o g. ap (λ x. Halves x) g.value)

offsets : (op t n : ℕ) → IsWritable (MemImm op t n (pos 0)) → AllRead (other_lines (MemImm op t n (pos 0))) (MemImm op t n (pos 0))
unfolding other_lines
offsets zero t n h = (str_line t n h.1 h.2 (h.3 (omega arith)), tt)
offsets (suc zero) t n h = (ldr_line t n h.1 h.2 (h.3 (omega arith)), tt)
offsets (suc (suc zero)) t n h = (strb_line t n h.1 h.2, tt)
offsets (suc (suc (suc zero))) t n h = (ldrb_line t n h.1 h.2, tt)
offsets (suc (suc (suc (suc zero)))) t n h = (strh_line t n h.1 h.2, tt)
offsets (suc (suc (suc (suc (suc zero))))) t n h = (ldrh_line t n h.1 h.2, tt)
offsets (suc (suc (suc (suc (suc (suc op)))))) t n h = absurd (let few = h.0 in omega arith)

-- the other lines of each statement
pub others : (kind : StmtKind) → IsWritable kind → AllRead (other_lines kind) kind
unfolding other_lines
others (MemImm op t n (pos zero)) h = offsets op t n h
others (MemSp true t (pos zero)) h = (ldr_sp_line t h.0, tt)
others (MemSp false t (pos zero)) h = (str_sp_line t h.0, tt)
others (BCond (suc (suc zero)) n) h = (bhs_line n h.1, tt)
others (BCond (suc (suc (suc zero))) n) h = (blo_line n h.1, tt)
others (Global n) h = (globl_line n h, tt)
others (Words es) h = (long_line es h, (four_line es h, tt))
others (Halves es) h = (short_line es h, (twice_line es h, tt))
others (Space z) h = (space_hash_line z h, (zero_plain_line z h, (zero_hash_line z h, tt)))
others (Align (pos n)) h = (align_hash_line n h, (power_line n h, (power_hash_line n h, tt)))
others (Align (negsuc n)) h = absurd h
others Pool h = (ltorg_line, tt)
others (Pad z) h = (pad_line z h, tt)
others (SetFp r z) h = (setfp_line r z h.0 h.1, tt)
others (PersonalityIndex z) h = (index_line z h, tt)
others kind h = tt
