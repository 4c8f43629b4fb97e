-- Statements with a number.
use Rattle.std.proofs.Common.{◌≡◌, ℕ, zero, suc, ◌<◌, [], ◌∷◌, ◌++◌, Ok, ℤ, pos, refl, subst, arith, codes}
use Rattle.std.proofs.lemmas.Fmt.{decimal_digit}
use Rattle.std.specs.Fmt.{signed_decimal}
use Rattle.asm_read.specs.declared.makes.Makes.TheVariants as makes
use Rattle.asm_read.specs.declared.makes.Computation.TheVariants as computation
use Rattle.asm_read.specs.declared.makes.Control.TheVariants as control
use Rattle.asm_read.specs.declared.makes.Directive.TheVariants as directive
use Rattle.asm_statements.specs.declared.statement.StmtKind.TheVariants.{AddRdSp, AddSp, SubSp, Rsbs, Svc, Udf, Space, Align, Pad, SetFp, PersonalityIndex}
use Rattle.asm_read.specs.Forms.{directives, a_to_b, c_to_l, m_to_z, rows}
use Rattle.asm_read.specs.Statements.{kind_of as kind_made}
use Rattle.asm_read.specs.Reading.{stmt, source_stmts}
use Rattle.asm_line_laws.specs.Written.{register, InRange, line, two_number, sp_count, sp_number, hash}
use Rattle.asm_line_laws.proofs.Fitted.{fitted}
use Rattle.asm_line_laws.proofs.Shapes.{of_two_number, of_sp_count, of_sp_number, of_hash, of_number}

pub add_register_sp_line : (a : ℕ) (z : ℤ) → a < 16 → InRange z → source_stmts (line (codes "add") (sp_count a z)) ≡ Ok (stmt 1 (AddRdSp a z) ∷ [])
unfolding rows directives a_to_b c_to_l m_to_z fitted kind_made
add_register_sp_line a z ha hz = of_sp_count (codes "add") (makes.Computes computation.AddRdSp) (AddRdSp a z) a z (record { named = refl; kept = refl; clean = refl; brief = omega arith }) ha hz refl (λ text o g. cc (g.first, g.number))

pub add_sp_line : (z : ℤ) → InRange z → source_stmts (line (codes "add") (sp_number z)) ≡ Ok (stmt 1 (AddSp z) ∷ [])
unfolding rows directives a_to_b c_to_l m_to_z fitted kind_made
add_sp_line z hz = of_sp_number (codes "add") (makes.Computes computation.AddSp) (AddSp z) z (record { named = refl; kept = refl; clean = refl; brief = omega arith }) hz refl (λ text o g. cc (g.number))

pub sub_sp_line : (z : ℤ) → InRange z → source_stmts (line (codes "sub") (sp_number z)) ≡ Ok (stmt 1 (SubSp z) ∷ [])
unfolding rows directives a_to_b c_to_l m_to_z fitted kind_made
sub_sp_line z hz = of_sp_number (codes "sub") (makes.Computes computation.SubSp) (SubSp z) z (record { named = refl; kept = refl; clean = refl; brief = omega arith }) hz refl (λ text o g. cc (g.number))

pub svc_line : (z : ℤ) → InRange z → source_stmts (line (codes "svc") (hash z)) ≡ Ok (stmt 1 (Svc z) ∷ [])
unfolding rows directives a_to_b c_to_l m_to_z fitted kind_made
svc_line z hz = of_hash (codes "svc") (makes.Controls control.Svc) (Svc z) z (record { named = refl; kept = refl; clean = refl; brief = omega arith }) hz refl (λ text o g. cc (g.number))

pub udf_line : (z : ℤ) → InRange z → source_stmts (line (codes "udf") (hash z)) ≡ Ok (stmt 1 (Udf z) ∷ [])
unfolding rows directives a_to_b c_to_l m_to_z fitted kind_made
udf_line z hz = of_hash (codes "udf") (makes.Controls control.Udf) (Udf z) z (record { named = refl; kept = refl; clean = refl; brief = omega arith }) hz refl (λ text o g. cc (g.number))

pub space_line : (z : ℤ) → InRange z → source_stmts (line (codes ".space") (signed_decimal z)) ≡ Ok (stmt 1 (Space z) ∷ [])
unfolding rows directives a_to_b c_to_l m_to_z fitted kind_made
space_line z hz = of_number (codes ".space") (makes.Directs directive.Space) (Space z) z (record { named = refl; kept = refl; clean = refl; brief = omega arith }) hz refl (λ text o g. cc (g.number))

pub pad_line : (z : ℤ) → InRange z → source_stmts (line (codes ".pad") (hash z)) ≡ Ok (stmt 1 (Pad z) ∷ [])
unfolding rows directives a_to_b c_to_l m_to_z fitted kind_made
pad_line z hz = of_hash (codes ".pad") (makes.Directs directive.Pad) (Pad z) z (record { named = refl; kept = refl; clean = refl; brief = omega arith }) hz refl (λ text o g. cc (g.number))

pub index_line : (z : ℤ) → InRange z → source_stmts (line (codes ".personalityindex") (signed_decimal z)) ≡ Ok (stmt 1 (PersonalityIndex z) ∷ [])
unfolding rows directives a_to_b c_to_l m_to_z fitted kind_made
index_line z hz = of_number (codes ".personalityindex") (makes.Directs directive.PersonalityIndex) (PersonalityIndex z) z (record { named = refl; kept = refl; clean = refl; brief = omega arith }) hz refl (λ text o g. cc (g.number))

pub setfp_line : (a : ℕ) (z : ℤ) → a < 16 → InRange z → source_stmts (line (codes ".setfp") (sp_count a z)) ≡ Ok (stmt 1 (SetFp a z) ∷ [])
unfolding rows directives a_to_b c_to_l m_to_z fitted kind_made
setfp_line a z ha hz = of_sp_count (codes ".setfp") (makes.Directs directive.SetFp) (SetFp a z) a z (record { named = refl; kept = refl; clean = refl; brief = omega arith }) ha hz refl (λ text o g. cc (g.first, g.number))

align_0_line : source_stmts (line (codes ".align") (signed_decimal (pos 0))) ≡ Ok (stmt 1 (Align (pos 0)) ∷ [])
unfolding rows directives a_to_b c_to_l m_to_z fitted kind_made
align_0_line = of_number (codes ".align") (makes.Directs directive.Align) (Align (pos 0)) (pos 0) (record { named = refl; kept = refl; clean = refl; brief = omega arith }) (omega arith) refl (λ text o g. cc (g.number))

align_1_line : source_stmts (line (codes ".align") (signed_decimal (pos 1))) ≡ Ok (stmt 1 (Align (pos 1)) ∷ [])
unfolding rows directives a_to_b c_to_l m_to_z fitted kind_made
align_1_line = of_number (codes ".align") (makes.Directs directive.Align) (Align (pos 1)) (pos 1) (record { named = refl; kept = refl; clean = refl; brief = omega arith }) (omega arith) refl (λ text o g. cc (g.number))

align_2_line : source_stmts (line (codes ".align") (signed_decimal (pos 2))) ≡ Ok (stmt 1 (Align (pos 2)) ∷ [])
unfolding rows directives a_to_b c_to_l m_to_z fitted kind_made
align_2_line = of_number (codes ".align") (makes.Directs directive.Align) (Align (pos 2)) (pos 2) (record { named = refl; kept = refl; clean = refl; brief = omega arith }) (omega arith) refl (λ text o g. cc (g.number))

align_3_line : source_stmts (line (codes ".align") (signed_decimal (pos 3))) ≡ Ok (stmt 1 (Align (pos 3)) ∷ [])
unfolding rows directives a_to_b c_to_l m_to_z fitted kind_made
align_3_line = of_number (codes ".align") (makes.Directs directive.Align) (Align (pos 3)) (pos 3) (record { named = refl; kept = refl; clean = refl; brief = omega arith }) (omega arith) refl (λ text o g. cc (g.number))

pub align_line : (n : ℕ) → n < 4 → source_stmts (line (codes ".align") (signed_decimal (pos n))) ≡ Ok (stmt 1 (Align (pos n)) ∷ [])
align_line zero h = align_0_line
align_line (suc zero) h = align_1_line
align_line (suc (suc zero)) h = align_2_line
align_line (suc (suc (suc zero))) h = align_3_line
align_line (suc (suc (suc (suc n)))) h = absurd (omega arith)

rsbs_zero_line : (a b : ℕ) → a < 16 → b < 16 → source_stmts (line (codes "rsbs") (two_number a b (pos 0))) ≡ Ok (stmt 1 (Rsbs a b) ∷ [])
unfolding rows directives a_to_b c_to_l m_to_z fitted kind_made
rsbs_zero_line a b ha hb = of_two_number (codes "rsbs") (makes.Computes computation.Rsbs) (Rsbs a b) a b (pos 0) (record { named = refl; kept = refl; clean = refl; brief = omega arith }) ha hb (omega arith) refl (λ text o g. cc (g.first, g.second))

pub rsbs_line : (a b : ℕ) → a < 16 → b < 16 → source_stmts (line (codes "rsbs") (register a ++ (codes ", " ++ (register b ++ codes ", #0")))) ≡ Ok (stmt 1 (Rsbs a b) ∷ [])
rsbs_line a b ha hb =
    let e : signed_decimal (pos 0) ≡ 48 ∷ [] = decimal_digit 0 (omega arith) in
    subst (λ x. source_stmts (line (codes "rsbs") (register a ++ (codes ", " ++ (register b ++ (codes ", #" ++ x))))) ≡ Ok (stmt 1 (Rsbs a b) ∷ [])) e (rsbs_zero_line a b ha hb)
