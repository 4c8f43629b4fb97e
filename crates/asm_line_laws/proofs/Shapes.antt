-- Operands of each shape: their tokens end where they should, and the line is short.
use Rattle.std.proofs.Common.{◌≡◌, ℕ, ◌<◌, List, [], ◌∷◌, ◌++◌, Ok, ℤ, pos, refl, arith, codes}
use Rattle.std.specs.Fmt.{signed_decimal}
use Rattle.asm_read.specs.declared.form.Operands.{Operands}
use Rattle.asm_read.specs.declared.makes.Makes.{Makes}
use Rattle.asm_statements.specs.declared.statement.StmtKind.{StmtKind}
use Rattle.asm_read.specs.Forms.{rows}
use Rattle.asm_read.specs.Statements.{kind_of as kind_made}
use Rattle.asm_read.specs.Reading.{stmt, source_stmts}
use Rattle.asm_line_laws.specs.Written.{register, IsNameText, InRange, line, two, three, indexed_text, register_number, two_number, sp_count, sp_number, offset, sp_offset, hash, register_name as register_and_name}
use Rattle.asm_line_laws.proofs.Items.{reg, word, num, sign}
use Rattle.asm_line_laws.proofs.Fitted.{Agrees}
use Rattle.asm_line_laws.proofs.Standing.{cost, costs, IsMnemonic, stands, comma_ends, open_ends, close_ends, hash_ends, percent_ends, minus_ends, sp, values}
use Rattle.asm_line_laws.proofs.Chosen.{picked, chosen}

pub of_one : (w : List ℕ) (m : Makes) (k : StmtKind) (a : ℕ) → IsMnemonic w → a < 16 → chosen rows w (reg a ∷ []) ≡ picked m (values a 0 0 (pos 0) []) → ((text : List ℕ) (o : Operands) → Agrees text o (values a 0 0 (pos 0) []) → kind_made text (record { makes = m; operands = o }) ≡ k) → source_stmts (line w (register a)) ≡ Ok (stmt 1 k ∷ [])
unfolding cost costs
of_one w m k a is ha choice makes = stands w (reg a ∷ []) m (values a 0 0 (pos 0) []) k is (omega arith) ((ha, refl), tt) refl (omega arith) choice makes

pub of_two : (w : List ℕ) (m : Makes) (k : StmtKind) (a : ℕ) (b : ℕ) → IsMnemonic w → a < 16 → b < 16 → chosen rows w (reg a ∷ sign 44 ∷ reg b ∷ []) ≡ picked m (values a b 0 (pos 0) []) → ((text : List ℕ) (o : Operands) → Agrees text o (values a b 0 (pos 0) []) → kind_made text (record { makes = m; operands = o }) ≡ k) → source_stmts (line w (two a b)) ≡ Ok (stmt 1 k ∷ [])
unfolding cost costs
of_two w m k a b is ha hb choice makes = stands w (reg a ∷ sign 44 ∷ reg b ∷ []) m (values a b 0 (pos 0) []) k is (omega arith) ((ha, refl), ((comma_ends _), ((hb, refl), tt))) refl (omega arith) choice makes

pub of_three : (w : List ℕ) (m : Makes) (k : StmtKind) (a : ℕ) (b : ℕ) (c : ℕ) → IsMnemonic w → a < 16 → b < 16 → c < 16 → chosen rows w (reg a ∷ sign 44 ∷ reg b ∷ sign 44 ∷ reg c ∷ []) ≡ picked m (values a b c (pos 0) []) → ((text : List ℕ) (o : Operands) → Agrees text o (values a b c (pos 0) []) → kind_made text (record { makes = m; operands = o }) ≡ k) → source_stmts (line w (three a b c)) ≡ Ok (stmt 1 k ∷ [])
unfolding cost costs
of_three w m k a b c is ha hb hc choice makes = stands w (reg a ∷ sign 44 ∷ reg b ∷ sign 44 ∷ reg c ∷ []) m (values a b c (pos 0) []) k is (omega arith) ((ha, refl), ((comma_ends _), ((hb, refl), ((comma_ends _), ((hc, refl), tt))))) refl (omega arith) choice makes

pub of_index : (w : List ℕ) (m : Makes) (k : StmtKind) (a : ℕ) (b : ℕ) (c : ℕ) → IsMnemonic w → a < 16 → b < 16 → c < 16 → chosen rows w (reg a ∷ sign 44 ∷ sign 91 ∷ reg b ∷ sign 44 ∷ reg c ∷ sign 93 ∷ []) ≡ picked m (values a b c (pos 0) []) → ((text : List ℕ) (o : Operands) → Agrees text o (values a b c (pos 0) []) → kind_made text (record { makes = m; operands = o }) ≡ k) → source_stmts (line w (indexed_text a b c)) ≡ Ok (stmt 1 k ∷ [])
unfolding cost costs
of_index w m k a b c is ha hb hc choice makes = stands w (reg a ∷ sign 44 ∷ sign 91 ∷ reg b ∷ sign 44 ∷ reg c ∷ sign 93 ∷ []) m (values a b c (pos 0) []) k is (omega arith) ((ha, refl), ((comma_ends _), ((open_ends _), ((hb, refl), ((comma_ends _), ((hc, refl), ((close_ends _), tt))))))) refl (omega arith) choice makes

pub of_register_number : (w : List ℕ) (m : Makes) (k : StmtKind) (a : ℕ) (z : ℤ) → IsMnemonic w → a < 16 → InRange z → chosen rows w (reg a ∷ sign 44 ∷ sign 35 ∷ num z ∷ []) ≡ picked m (values a 0 0 z []) → ((text : List ℕ) (o : Operands) → Agrees text o (values a 0 0 z []) → kind_made text (record { makes = m; operands = o }) ≡ k) → source_stmts (line w (register_number a z)) ≡ Ok (stmt 1 k ∷ [])
unfolding cost costs
of_register_number w m k a z is ha hz choice makes = stands w (reg a ∷ sign 44 ∷ sign 35 ∷ num z ∷ []) m (values a 0 0 z []) k is (omega arith) ((ha, refl), ((comma_ends _), ((hash_ends _), ((hz, refl), tt)))) refl (omega arith) choice makes

pub of_two_number : (w : List ℕ) (m : Makes) (k : StmtKind) (a : ℕ) (b : ℕ) (z : ℤ) → IsMnemonic w → a < 16 → b < 16 → InRange z → chosen rows w (reg a ∷ sign 44 ∷ reg b ∷ sign 44 ∷ sign 35 ∷ num z ∷ []) ≡ picked m (values a b 0 z []) → ((text : List ℕ) (o : Operands) → Agrees text o (values a b 0 z []) → kind_made text (record { makes = m; operands = o }) ≡ k) → source_stmts (line w (two_number a b z)) ≡ Ok (stmt 1 k ∷ [])
unfolding cost costs
of_two_number w m k a b z is ha hb hz choice makes = stands w (reg a ∷ sign 44 ∷ reg b ∷ sign 44 ∷ sign 35 ∷ num z ∷ []) m (values a b 0 z []) k is (omega arith) ((ha, refl), ((comma_ends _), ((hb, refl), ((comma_ends _), ((hash_ends _), ((hz, refl), tt)))))) refl (omega arith) choice makes

pub of_sp_count : (w : List ℕ) (m : Makes) (k : StmtKind) (a : ℕ) (z : ℤ) → IsMnemonic w → a < 16 → InRange z → chosen rows w (reg a ∷ sign 44 ∷ sp ∷ sign 44 ∷ sign 35 ∷ num z ∷ []) ≡ picked m (values a 0 0 z []) → ((text : List ℕ) (o : Operands) → Agrees text o (values a 0 0 z []) → kind_made text (record { makes = m; operands = o }) ≡ k) → source_stmts (line w (sp_count a z)) ≡ Ok (stmt 1 k ∷ [])
unfolding cost costs
of_sp_count w m k a z is ha hz choice makes = stands w (reg a ∷ sign 44 ∷ sp ∷ sign 44 ∷ sign 35 ∷ num z ∷ []) m (values a 0 0 z []) k is (omega arith) ((ha, refl), ((comma_ends _), ((refl, refl), ((comma_ends _), ((hash_ends _), ((hz, refl), tt)))))) refl (omega arith) choice makes

pub of_sp_number : (w : List ℕ) (m : Makes) (k : StmtKind) (z : ℤ) → IsMnemonic w → InRange z → chosen rows w (sp ∷ sign 44 ∷ sign 35 ∷ num z ∷ []) ≡ picked m (values 0 0 0 z []) → ((text : List ℕ) (o : Operands) → Agrees text o (values 0 0 0 z []) → kind_made text (record { makes = m; operands = o }) ≡ k) → source_stmts (line w (sp_number z)) ≡ Ok (stmt 1 k ∷ [])
unfolding cost costs
of_sp_number w m k z is hz choice makes = stands w (sp ∷ sign 44 ∷ sign 35 ∷ num z ∷ []) m (values 0 0 0 z []) k is (omega arith) ((refl, refl), ((comma_ends _), ((hash_ends _), ((hz, refl), tt)))) refl (omega arith) choice makes

pub of_offset : (w : List ℕ) (m : Makes) (k : StmtKind) (a : ℕ) (b : ℕ) (z : ℤ) → IsMnemonic w → a < 16 → b < 16 → InRange z → chosen rows w (reg a ∷ sign 44 ∷ sign 91 ∷ reg b ∷ sign 44 ∷ sign 35 ∷ num z ∷ sign 93 ∷ []) ≡ picked m (values a b 0 z []) → ((text : List ℕ) (o : Operands) → Agrees text o (values a b 0 z []) → kind_made text (record { makes = m; operands = o }) ≡ k) → source_stmts (line w (offset a b z)) ≡ Ok (stmt 1 k ∷ [])
unfolding cost costs
of_offset w m k a b z is ha hb hz choice makes = stands w (reg a ∷ sign 44 ∷ sign 91 ∷ reg b ∷ sign 44 ∷ sign 35 ∷ num z ∷ sign 93 ∷ []) m (values a b 0 z []) k is (omega arith) ((ha, refl), ((comma_ends _), ((open_ends _), ((hb, refl), ((comma_ends _), ((hash_ends _), ((hz, refl), ((close_ends _), tt)))))))) refl (omega arith) choice makes

pub of_sp_offset : (w : List ℕ) (m : Makes) (k : StmtKind) (a : ℕ) (z : ℤ) → IsMnemonic w → a < 16 → InRange z → chosen rows w (reg a ∷ sign 44 ∷ sign 91 ∷ sp ∷ sign 44 ∷ sign 35 ∷ num z ∷ sign 93 ∷ []) ≡ picked m (values a 0 0 z []) → ((text : List ℕ) (o : Operands) → Agrees text o (values a 0 0 z []) → kind_made text (record { makes = m; operands = o }) ≡ k) → source_stmts (line w (sp_offset a z)) ≡ Ok (stmt 1 k ∷ [])
unfolding cost costs
of_sp_offset w m k a z is ha hz choice makes = stands w (reg a ∷ sign 44 ∷ sign 91 ∷ sp ∷ sign 44 ∷ sign 35 ∷ num z ∷ sign 93 ∷ []) m (values a 0 0 z []) k is (omega arith) ((ha, refl), ((comma_ends _), ((open_ends _), ((refl, refl), ((comma_ends _), ((hash_ends _), ((hz, refl), ((close_ends _), tt)))))))) refl (omega arith) choice makes

pub of_hash : (w : List ℕ) (m : Makes) (k : StmtKind) (z : ℤ) → IsMnemonic w → InRange z → chosen rows w (sign 35 ∷ num z ∷ []) ≡ picked m (values 0 0 0 z []) → ((text : List ℕ) (o : Operands) → Agrees text o (values 0 0 0 z []) → kind_made text (record { makes = m; operands = o }) ≡ k) → source_stmts (line w (hash z)) ≡ Ok (stmt 1 k ∷ [])
unfolding cost costs
of_hash w m k z is hz choice makes = stands w (sign 35 ∷ num z ∷ []) m (values 0 0 0 z []) k is (omega arith) ((hash_ends _), ((hz, refl), tt)) refl (omega arith) choice makes

pub of_number : (w : List ℕ) (m : Makes) (k : StmtKind) (z : ℤ) → IsMnemonic w → InRange z → chosen rows w (num z ∷ []) ≡ picked m (values 0 0 0 z []) → ((text : List ℕ) (o : Operands) → Agrees text o (values 0 0 0 z []) → kind_made text (record { makes = m; operands = o }) ≡ k) → source_stmts (line w (signed_decimal z)) ≡ Ok (stmt 1 k ∷ [])
unfolding cost costs
of_number w m k z is hz choice makes = stands w (num z ∷ []) m (values 0 0 0 z []) k is (omega arith) ((hz, refl), tt) refl (omega arith) choice makes

pub of_name : (w : List ℕ) (m : Makes) (k : StmtKind) (n : List ℕ) → IsMnemonic w → IsNameText n → chosen rows w (word n ∷ []) ≡ picked m (values 0 0 0 (pos 0) n) → ((text : List ℕ) (o : Operands) → Agrees text o (values 0 0 0 (pos 0) n) → kind_made text (record { makes = m; operands = o }) ≡ k) → source_stmts (line w (n)) ≡ Ok (stmt 1 k ∷ [])
unfolding cost costs
of_name w m k n is hn choice makes = stands w (word n ∷ []) m (values 0 0 0 (pos 0) n) k is (omega arith) ((hn.0, refl), tt) refl (let longn = hn.1 in omega arith) choice makes

pub of_register_name : (w : List ℕ) (m : Makes) (k : StmtKind) (a : ℕ) (n : List ℕ) → IsMnemonic w → a < 16 → IsNameText n → chosen rows w (reg a ∷ sign 44 ∷ word n ∷ []) ≡ picked m (values a 0 0 (pos 0) n) → ((text : List ℕ) (o : Operands) → Agrees text o (values a 0 0 (pos 0) n) → kind_made text (record { makes = m; operands = o }) ≡ k) → source_stmts (line w (register_and_name a n)) ≡ Ok (stmt 1 k ∷ [])
unfolding cost costs
of_register_name w m k a n is ha hn choice makes = stands w (reg a ∷ sign 44 ∷ word n ∷ []) m (values a 0 0 (pos 0) n) k is (omega arith) ((ha, refl), ((comma_ends _), ((hn.0, refl), tt))) refl (let longn = hn.1 in omega arith) choice makes

pub of_function : (w : List ℕ) (m : Makes) (k : StmtKind) (n : List ℕ) → IsMnemonic w → IsNameText n → chosen rows w (word n ∷ sign 44 ∷ sign 37 ∷ word (codes "function") ∷ []) ≡ picked m (values 0 0 0 (pos 0) n) → ((text : List ℕ) (o : Operands) → Agrees text o (values 0 0 0 (pos 0) n) → kind_made text (record { makes = m; operands = o }) ≡ k) → source_stmts (line w (n ++ codes ", %function")) ≡ Ok (stmt 1 k ∷ [])
unfolding cost costs
of_function w m k n is hn choice makes = stands w (word n ∷ sign 44 ∷ sign 37 ∷ word (codes "function") ∷ []) m (values 0 0 0 (pos 0) n) k is (omega arith) ((hn.0, refl), ((comma_ends _), ((percent_ends _), ((refl, refl), tt)))) refl (let longn = hn.1 in omega arith) choice makes

pub of_object : (w : List ℕ) (m : Makes) (k : StmtKind) (n : List ℕ) → IsMnemonic w → IsNameText n → chosen rows w (word n ∷ sign 44 ∷ sign 37 ∷ word (codes "object") ∷ []) ≡ picked m (values 0 0 0 (pos 0) n) → ((text : List ℕ) (o : Operands) → Agrees text o (values 0 0 0 (pos 0) n) → kind_made text (record { makes = m; operands = o }) ≡ k) → source_stmts (line w (n ++ codes ", %object")) ≡ Ok (stmt 1 k ∷ [])
unfolding cost costs
of_object w m k n is hn choice makes = stands w (word n ∷ sign 44 ∷ sign 37 ∷ word (codes "object") ∷ []) m (values 0 0 0 (pos 0) n) k is (omega arith) ((hn.0, refl), ((comma_ends _), ((percent_ends _), ((refl, refl), tt)))) refl (let longn = hn.1 in omega arith) choice makes

pub of_size : (w : List ℕ) (m : Makes) (k : StmtKind) (n : List ℕ) → IsMnemonic w → IsNameText n → chosen rows w (word n ∷ sign 44 ∷ word (codes ".") ∷ sign 45 ∷ word n ∷ []) ≡ picked m (values 0 0 0 (pos 0) n) → ((text : List ℕ) (o : Operands) → Agrees text o (values 0 0 0 (pos 0) n) → kind_made text (record { makes = m; operands = o }) ≡ k) → source_stmts (line w (n ++ (codes ", .-" ++ n))) ≡ Ok (stmt 1 k ∷ [])
unfolding cost costs
of_size w m k n is hn choice makes = stands w (word n ∷ sign 44 ∷ word (codes ".") ∷ sign 45 ∷ word n ∷ []) m (values 0 0 0 (pos 0) n) k is (omega arith) ((hn.0, refl), ((comma_ends _), ((refl, refl), ((minus_ends n hn.0), ((hn.0, refl), tt))))) refl (let longn = hn.1 in omega arith) choice makes

pub of_rodata : (m : Makes) (k : StmtKind) → chosen rows (codes ".section") (word (codes ".rodata") ∷ []) ≡ picked m (values 0 0 0 (pos 0) []) → ((text : List ℕ) (o : Operands) → Agrees text o (values 0 0 0 (pos 0) []) → kind_made text (record { makes = m; operands = o }) ≡ k) → source_stmts (line (codes ".section") (codes ".rodata")) ≡ Ok (stmt 1 k ∷ [])
unfolding cost costs
of_rodata m k choice makes = stands (codes ".section") (word (codes ".rodata") ∷ []) m (values 0 0 0 (pos 0) []) k (record { named = refl; kept = refl; clean = refl; brief = omega arith }) (omega arith) ((refl, refl), tt) refl (omega arith) choice makes
