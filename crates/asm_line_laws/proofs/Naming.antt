-- Statements with a name.
use Rattle.std.proofs.Common.{◌≡◌, ℕ, ◌<◌, ◌==◌, Bool, true, false, List, [], ◌∷◌, ◌++◌, Ok, pos, refl, arith, codes}
use Rattle.std.proofs.lemmas.Bool.{eq-eqb}
use Rattle.asm_read.specs.declared.makes.Makes.TheVariants as makes
use Rattle.asm_read.specs.declared.makes.Named.TheVariants as name
use Rattle.asm_statements.specs.declared.statement.StmtKind.TheVariants.{Adr, LdrLabel, B, BCond, Bl, Cbz, BWide, Global, TypeFunction, TypeObject, Size}
use Rattle.asm_read.specs.Operands.{same}
use Rattle.asm_read.specs.Forms.{directives, a_to_b, c_to_l, m_to_z, rows}
use Rattle.asm_line_laws.proofs.Pieces.{name_size}
use Rattle.asm_read.specs.Statements.{kind_of as kind_made}
use Rattle.asm_read.specs.Reading.{stmt, source_stmts}
use Rattle.asm_line_laws.specs.Written.{IsNameText, line, register_name as register_and_name}
use Rattle.asm_line_laws.proofs.Texts.{both}
use Rattle.asm_line_laws.proofs.Items.{Item, word, sign}
use Rattle.asm_line_laws.proofs.Fitted.{Vals, none_yet, Step, went, if_so, and_then, fitted}
use Rattle.asm_line_laws.proofs.Standing.{values}
use Rattle.asm_line_laws.proofs.Chosen.{picked, chosen}
use Rattle.asm_line_laws.proofs.Shapes.{of_name, of_register_name, of_function, of_object, of_size}

pub b_line : (n : List ℕ) → IsNameText n → source_stmts (line (codes "b") (n)) ≡ Ok (stmt 1 (B n) ∷ [])
unfolding rows directives a_to_b c_to_l m_to_z fitted kind_made
b_line n hn = of_name (codes "b") (makes.Names name.B) (B n) n (record { named = refl; kept = refl; clean = refl; brief = omega arith }) hn refl (λ text o g. cc (g.name))

pub bl_line : (n : List ℕ) → IsNameText n → source_stmts (line (codes "bl") (n)) ≡ Ok (stmt 1 (Bl n) ∷ [])
unfolding rows directives a_to_b c_to_l m_to_z fitted kind_made
bl_line n hn = of_name (codes "bl") (makes.Names name.Bl) (Bl n) n (record { named = refl; kept = refl; clean = refl; brief = omega arith }) hn refl (λ text o g. cc (g.name))

pub beq_line : (n : List ℕ) → IsNameText n → source_stmts (line (codes "beq") (n)) ≡ Ok (stmt 1 (BCond 0 n) ∷ [])
unfolding rows directives a_to_b c_to_l m_to_z fitted kind_made
beq_line n hn = of_name (codes "beq") (makes.Names (name.BCond 0)) (BCond 0 n) n (record { named = refl; kept = refl; clean = refl; brief = omega arith }) hn refl (λ text o g. cc (g.name))

pub bne_line : (n : List ℕ) → IsNameText n → source_stmts (line (codes "bne") (n)) ≡ Ok (stmt 1 (BCond 1 n) ∷ [])
unfolding rows directives a_to_b c_to_l m_to_z fitted kind_made
bne_line n hn = of_name (codes "bne") (makes.Names (name.BCond 1)) (BCond 1 n) n (record { named = refl; kept = refl; clean = refl; brief = omega arith }) hn refl (λ text o g. cc (g.name))

pub bcs_line : (n : List ℕ) → IsNameText n → source_stmts (line (codes "bcs") (n)) ≡ Ok (stmt 1 (BCond 2 n) ∷ [])
unfolding rows directives a_to_b c_to_l m_to_z fitted kind_made
bcs_line n hn = of_name (codes "bcs") (makes.Names (name.BCond 2)) (BCond 2 n) n (record { named = refl; kept = refl; clean = refl; brief = omega arith }) hn refl (λ text o g. cc (g.name))

pub bcc_line : (n : List ℕ) → IsNameText n → source_stmts (line (codes "bcc") (n)) ≡ Ok (stmt 1 (BCond 3 n) ∷ [])
unfolding rows directives a_to_b c_to_l m_to_z fitted kind_made
bcc_line n hn = of_name (codes "bcc") (makes.Names (name.BCond 3)) (BCond 3 n) n (record { named = refl; kept = refl; clean = refl; brief = omega arith }) hn refl (λ text o g. cc (g.name))

pub bmi_line : (n : List ℕ) → IsNameText n → source_stmts (line (codes "bmi") (n)) ≡ Ok (stmt 1 (BCond 4 n) ∷ [])
unfolding rows directives a_to_b c_to_l m_to_z fitted kind_made
bmi_line n hn = of_name (codes "bmi") (makes.Names (name.BCond 4)) (BCond 4 n) n (record { named = refl; kept = refl; clean = refl; brief = omega arith }) hn refl (λ text o g. cc (g.name))

pub bpl_line : (n : List ℕ) → IsNameText n → source_stmts (line (codes "bpl") (n)) ≡ Ok (stmt 1 (BCond 5 n) ∷ [])
unfolding rows directives a_to_b c_to_l m_to_z fitted kind_made
bpl_line n hn = of_name (codes "bpl") (makes.Names (name.BCond 5)) (BCond 5 n) n (record { named = refl; kept = refl; clean = refl; brief = omega arith }) hn refl (λ text o g. cc (g.name))

pub bvs_line : (n : List ℕ) → IsNameText n → source_stmts (line (codes "bvs") (n)) ≡ Ok (stmt 1 (BCond 6 n) ∷ [])
unfolding rows directives a_to_b c_to_l m_to_z fitted kind_made
bvs_line n hn = of_name (codes "bvs") (makes.Names (name.BCond 6)) (BCond 6 n) n (record { named = refl; kept = refl; clean = refl; brief = omega arith }) hn refl (λ text o g. cc (g.name))

pub bvc_line : (n : List ℕ) → IsNameText n → source_stmts (line (codes "bvc") (n)) ≡ Ok (stmt 1 (BCond 7 n) ∷ [])
unfolding rows directives a_to_b c_to_l m_to_z fitted kind_made
bvc_line n hn = of_name (codes "bvc") (makes.Names (name.BCond 7)) (BCond 7 n) n (record { named = refl; kept = refl; clean = refl; brief = omega arith }) hn refl (λ text o g. cc (g.name))

pub bhi_line : (n : List ℕ) → IsNameText n → source_stmts (line (codes "bhi") (n)) ≡ Ok (stmt 1 (BCond 8 n) ∷ [])
unfolding rows directives a_to_b c_to_l m_to_z fitted kind_made
bhi_line n hn = of_name (codes "bhi") (makes.Names (name.BCond 8)) (BCond 8 n) n (record { named = refl; kept = refl; clean = refl; brief = omega arith }) hn refl (λ text o g. cc (g.name))

pub bls_line : (n : List ℕ) → IsNameText n → source_stmts (line (codes "bls") (n)) ≡ Ok (stmt 1 (BCond 9 n) ∷ [])
unfolding rows directives a_to_b c_to_l m_to_z fitted kind_made
bls_line n hn = of_name (codes "bls") (makes.Names (name.BCond 9)) (BCond 9 n) n (record { named = refl; kept = refl; clean = refl; brief = omega arith }) hn refl (λ text o g. cc (g.name))

pub bge_line : (n : List ℕ) → IsNameText n → source_stmts (line (codes "bge") (n)) ≡ Ok (stmt 1 (BCond 10 n) ∷ [])
unfolding rows directives a_to_b c_to_l m_to_z fitted kind_made
bge_line n hn = of_name (codes "bge") (makes.Names (name.BCond 10)) (BCond 10 n) n (record { named = refl; kept = refl; clean = refl; brief = omega arith }) hn refl (λ text o g. cc (g.name))

pub blt_line : (n : List ℕ) → IsNameText n → source_stmts (line (codes "blt") (n)) ≡ Ok (stmt 1 (BCond 11 n) ∷ [])
unfolding rows directives a_to_b c_to_l m_to_z fitted kind_made
blt_line n hn = of_name (codes "blt") (makes.Names (name.BCond 11)) (BCond 11 n) n (record { named = refl; kept = refl; clean = refl; brief = omega arith }) hn refl (λ text o g. cc (g.name))

pub bgt_line : (n : List ℕ) → IsNameText n → source_stmts (line (codes "bgt") (n)) ≡ Ok (stmt 1 (BCond 12 n) ∷ [])
unfolding rows directives a_to_b c_to_l m_to_z fitted kind_made
bgt_line n hn = of_name (codes "bgt") (makes.Names (name.BCond 12)) (BCond 12 n) n (record { named = refl; kept = refl; clean = refl; brief = omega arith }) hn refl (λ text o g. cc (g.name))

pub ble_line : (n : List ℕ) → IsNameText n → source_stmts (line (codes "ble") (n)) ≡ Ok (stmt 1 (BCond 13 n) ∷ [])
unfolding rows directives a_to_b c_to_l m_to_z fitted kind_made
ble_line n hn = of_name (codes "ble") (makes.Names (name.BCond 13)) (BCond 13 n) n (record { named = refl; kept = refl; clean = refl; brief = omega arith }) hn refl (λ text o g. cc (g.name))

pub b_wide_line : (n : List ℕ) → IsNameText n → source_stmts (line (codes "b.w") (n)) ≡ Ok (stmt 1 (BWide n) ∷ [])
unfolding rows directives a_to_b c_to_l m_to_z fitted kind_made
b_wide_line n hn = of_name (codes "b.w") (makes.Names name.BWide) (BWide n) n (record { named = refl; kept = refl; clean = refl; brief = omega arith }) hn refl (λ text o g. cc (g.name))

pub global_line : (n : List ℕ) → IsNameText n → source_stmts (line (codes ".global") (n)) ≡ Ok (stmt 1 (Global n) ∷ [])
unfolding rows directives a_to_b c_to_l m_to_z fitted kind_made
global_line n hn = of_name (codes ".global") (makes.Names name.Global) (Global n) n (record { named = refl; kept = refl; clean = refl; brief = omega arith }) hn refl (λ text o g. cc (g.name))

pub function_line : (n : List ℕ) → IsNameText n → source_stmts (line (codes ".type") (n ++ codes ", %function")) ≡ Ok (stmt 1 (TypeFunction n) ∷ [])
unfolding rows directives a_to_b c_to_l m_to_z fitted kind_made
function_line n hn = of_function (codes ".type") (makes.Names name.TypeFunction) (TypeFunction n) n (record { named = refl; kept = refl; clean = refl; brief = omega arith }) hn refl (λ text o g. cc (g.name))

pub object_line : (n : List ℕ) → IsNameText n → source_stmts (line (codes ".type") (n ++ codes ", %object")) ≡ Ok (stmt 1 (TypeObject n) ∷ [])
unfolding rows directives a_to_b c_to_l m_to_z fitted kind_made
object_line n hn = of_object (codes ".type") (makes.Names name.TypeObject) (TypeObject n) n (record { named = refl; kept = refl; clean = refl; brief = omega arith }) hn refl (λ text o g. cc (g.name))

pub adr_line : (a : ℕ) (n : List ℕ) → a < 16 → IsNameText n → source_stmts (line (codes "adr") (register_and_name a n)) ≡ Ok (stmt 1 (Adr a n) ∷ [])
unfolding rows directives a_to_b c_to_l m_to_z fitted kind_made
adr_line a n ha hn = of_register_name (codes "adr") (makes.Names name.Adr) (Adr a n) a n (record { named = refl; kept = refl; clean = refl; brief = omega arith }) ha hn refl (λ text o g. cc (g.name, g.first))

pub cbz_line : (a : ℕ) (n : List ℕ) → a < 16 → IsNameText n → source_stmts (line (codes "cbz") (register_and_name a n)) ≡ Ok (stmt 1 (Cbz false a n) ∷ [])
unfolding rows directives a_to_b c_to_l m_to_z fitted kind_made
cbz_line a n ha hn = of_register_name (codes "cbz") (makes.Names (name.Cbz false)) (Cbz false a n) a n (record { named = refl; kept = refl; clean = refl; brief = omega arith }) ha hn refl (λ text o g. cc (g.name, g.first))

pub cbnz_line : (a : ℕ) (n : List ℕ) → a < 16 → IsNameText n → source_stmts (line (codes "cbnz") (register_and_name a n)) ≡ Ok (stmt 1 (Cbz true a n) ∷ [])
unfolding rows directives a_to_b c_to_l m_to_z fitted kind_made
cbnz_line a n ha hn = of_register_name (codes "cbnz") (makes.Names (name.Cbz true)) (Cbz true a n) a n (record { named = refl; kept = refl; clean = refl; brief = omega arith }) ha hn refl (λ text o g. cc (g.name, g.first))

pub ldr_label_line : (a : ℕ) (n : List ℕ) → a < 16 → IsNameText n → source_stmts (line (codes "ldr") (register_and_name a n)) ≡ Ok (stmt 1 (LdrLabel a n) ∷ [])
unfolding rows directives a_to_b c_to_l m_to_z fitted kind_made
ldr_label_line a n ha hn = of_register_name (codes "ldr") (makes.Names name.LdrLabel) (LdrLabel a n) a n (record { named = refl; kept = refl; clean = refl; brief = omega arith }) ha hn refl (λ text o g. cc (g.name, g.first))

same_self : (w : List ℕ) → same w w ≡ true
same_self [] = refl
same_self (b ∷ bs) = both (b == b) (same bs bs) (eq-eqb b b refl) (same_self bs)

same_then : (b : Bool) (ts : List Item) (v : Vals) (f : List Item → Vals → Step) (s : Step) → b ≡ true → f ts v ≡ s → and_then (if_so b ts v) f ≡ s
same_then b ts v f s h e = rw h e

size_went : (n : List ℕ) → fitted name_size (word n ∷ sign 44 ∷ word (codes ".") ∷ sign 45 ∷ word n ∷ []) none_yet ≡ went [] (values 0 0 0 (pos 0) n)
unfolding fitted
size_went n = same_then (same n n) _ _ _ _ (same_self n) refl

size_rows : (n : List ℕ) → chosen rows (codes ".size") (word n ∷ sign 44 ∷ word (codes ".") ∷ sign 45 ∷ word n ∷ []) ≡ picked (makes.Names name.Size) (values 0 0 0 (pos 0) n)
unfolding rows directives a_to_b c_to_l m_to_z
size_rows n = rw (size_went n) refl

pub size_line : (n : List ℕ) → IsNameText n → source_stmts (line (codes ".size") (n ++ (codes ", .-" ++ n))) ≡ Ok (stmt 1 (Size n) ∷ [])
unfolding kind_made
size_line n hn = of_size (codes ".size") (makes.Names name.Size) (Size n) n (record { named = refl; kept = refl; clean = refl; brief = omega arith }) hn (size_rows n) (λ text o g. cc (g.name))
