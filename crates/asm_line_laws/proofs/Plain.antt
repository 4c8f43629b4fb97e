-- Statements of one register, of no operand and of fixed words.
use Rattle.std.proofs.Common.{◌≡◌, ℕ, ◌<◌, [], ◌∷◌, Ok, refl, arith, codes}
use Rattle.asm_read.specs.declared.makes.Makes.TheVariants as makes
use Rattle.asm_read.specs.declared.makes.Control.TheVariants as control
use Rattle.asm_read.specs.declared.makes.Directive.TheVariants as directive
use Rattle.asm_statements.specs.declared.statement.StmtKind.TheVariants.{Bx, Blx, Hint, Barrier, Text, Data, Bss, Rodata, Pool, FnStart, FnEnd, CantUnwind, HandlerData}
use Rattle.asm_read.specs.Forms.{directives, a_to_b, c_to_l, m_to_z, rows}
use Rattle.asm_read.specs.Statements.{kind_of as kind_made}
use Rattle.asm_read.specs.Reading.{stmt, source_stmts}
use Rattle.asm_line_laws.specs.Written.{register, line}
use Rattle.asm_line_laws.proofs.Fitted.{fitted}
use Rattle.asm_line_laws.proofs.Standing.{alone}
use Rattle.asm_line_laws.proofs.Shapes.{of_one, of_rodata}

pub bx_line : (a : ℕ) → a < 16 → source_stmts (line (codes "bx") (register a)) ≡ Ok (stmt 1 (Bx a) ∷ [])
unfolding rows directives a_to_b c_to_l m_to_z fitted kind_made
bx_line a ha = of_one (codes "bx") (makes.Controls control.Bx) (Bx a) a (record { named = refl; kept = refl; clean = refl; brief = omega arith }) ha refl (λ text o g. cc (g.first))

pub blx_line : (a : ℕ) → a < 16 → source_stmts (line (codes "blx") (register a)) ≡ Ok (stmt 1 (Blx a) ∷ [])
unfolding rows directives a_to_b c_to_l m_to_z fitted kind_made
blx_line a ha = of_one (codes "blx") (makes.Controls control.Blx) (Blx a) a (record { named = refl; kept = refl; clean = refl; brief = omega arith }) ha refl (λ text o g. cc (g.first))

pub nop_line : source_stmts (codes "nop") ≡ Ok (stmt 1 (Hint 0) ∷ [])
unfolding rows directives a_to_b c_to_l m_to_z fitted kind_made
nop_line = alone (codes "nop") (makes.Controls (control.Hint 0)) (Hint 0) (record { named = refl; kept = refl; clean = refl; brief = omega arith }) refl (λ text o. refl)

pub yield_line : source_stmts (codes "yield") ≡ Ok (stmt 1 (Hint 1) ∷ [])
unfolding rows directives a_to_b c_to_l m_to_z fitted kind_made
yield_line = alone (codes "yield") (makes.Controls (control.Hint 1)) (Hint 1) (record { named = refl; kept = refl; clean = refl; brief = omega arith }) refl (λ text o. refl)

pub wfe_line : source_stmts (codes "wfe") ≡ Ok (stmt 1 (Hint 2) ∷ [])
unfolding rows directives a_to_b c_to_l m_to_z fitted kind_made
wfe_line = alone (codes "wfe") (makes.Controls (control.Hint 2)) (Hint 2) (record { named = refl; kept = refl; clean = refl; brief = omega arith }) refl (λ text o. refl)

pub wfi_line : source_stmts (codes "wfi") ≡ Ok (stmt 1 (Hint 3) ∷ [])
unfolding rows directives a_to_b c_to_l m_to_z fitted kind_made
wfi_line = alone (codes "wfi") (makes.Controls (control.Hint 3)) (Hint 3) (record { named = refl; kept = refl; clean = refl; brief = omega arith }) refl (λ text o. refl)

pub sev_line : source_stmts (codes "sev") ≡ Ok (stmt 1 (Hint 4) ∷ [])
unfolding rows directives a_to_b c_to_l m_to_z fitted kind_made
sev_line = alone (codes "sev") (makes.Controls (control.Hint 4)) (Hint 4) (record { named = refl; kept = refl; clean = refl; brief = omega arith }) refl (λ text o. refl)

pub dsb_line : source_stmts (codes "dsb") ≡ Ok (stmt 1 (Barrier 0) ∷ [])
unfolding rows directives a_to_b c_to_l m_to_z fitted kind_made
dsb_line = alone (codes "dsb") (makes.Controls (control.Barrier 0)) (Barrier 0) (record { named = refl; kept = refl; clean = refl; brief = omega arith }) refl (λ text o. refl)

pub dmb_line : source_stmts (codes "dmb") ≡ Ok (stmt 1 (Barrier 1) ∷ [])
unfolding rows directives a_to_b c_to_l m_to_z fitted kind_made
dmb_line = alone (codes "dmb") (makes.Controls (control.Barrier 1)) (Barrier 1) (record { named = refl; kept = refl; clean = refl; brief = omega arith }) refl (λ text o. refl)

pub isb_line : source_stmts (codes "isb") ≡ Ok (stmt 1 (Barrier 2) ∷ [])
unfolding rows directives a_to_b c_to_l m_to_z fitted kind_made
isb_line = alone (codes "isb") (makes.Controls (control.Barrier 2)) (Barrier 2) (record { named = refl; kept = refl; clean = refl; brief = omega arith }) refl (λ text o. refl)

pub text_line : source_stmts (codes ".text") ≡ Ok (stmt 1 (Text) ∷ [])
unfolding rows directives a_to_b c_to_l m_to_z fitted kind_made
text_line = alone (codes ".text") (makes.Directs directive.Text) (Text) (record { named = refl; kept = refl; clean = refl; brief = omega arith }) refl (λ text o. refl)

pub data_section_line : source_stmts (codes ".data") ≡ Ok (stmt 1 (Data) ∷ [])
unfolding rows directives a_to_b c_to_l m_to_z fitted kind_made
data_section_line = alone (codes ".data") (makes.Directs directive.Data) (Data) (record { named = refl; kept = refl; clean = refl; brief = omega arith }) refl (λ text o. refl)

pub bss_line : source_stmts (codes ".bss") ≡ Ok (stmt 1 (Bss) ∷ [])
unfolding rows directives a_to_b c_to_l m_to_z fitted kind_made
bss_line = alone (codes ".bss") (makes.Directs directive.Bss) (Bss) (record { named = refl; kept = refl; clean = refl; brief = omega arith }) refl (λ text o. refl)

pub pool_line : source_stmts (codes ".pool") ≡ Ok (stmt 1 (Pool) ∷ [])
unfolding rows directives a_to_b c_to_l m_to_z fitted kind_made
pool_line = alone (codes ".pool") (makes.Directs directive.Pool) (Pool) (record { named = refl; kept = refl; clean = refl; brief = omega arith }) refl (λ text o. refl)

pub fnstart_line : source_stmts (codes ".fnstart") ≡ Ok (stmt 1 (FnStart) ∷ [])
unfolding rows directives a_to_b c_to_l m_to_z fitted kind_made
fnstart_line = alone (codes ".fnstart") (makes.Directs directive.FnStart) (FnStart) (record { named = refl; kept = refl; clean = refl; brief = omega arith }) refl (λ text o. refl)

pub fnend_line : source_stmts (codes ".fnend") ≡ Ok (stmt 1 (FnEnd) ∷ [])
unfolding rows directives a_to_b c_to_l m_to_z fitted kind_made
fnend_line = alone (codes ".fnend") (makes.Directs directive.FnEnd) (FnEnd) (record { named = refl; kept = refl; clean = refl; brief = omega arith }) refl (λ text o. refl)

pub cantunwind_line : source_stmts (codes ".cantunwind") ≡ Ok (stmt 1 (CantUnwind) ∷ [])
unfolding rows directives a_to_b c_to_l m_to_z fitted kind_made
cantunwind_line = alone (codes ".cantunwind") (makes.Directs directive.CantUnwind) (CantUnwind) (record { named = refl; kept = refl; clean = refl; brief = omega arith }) refl (λ text o. refl)

pub handlerdata_line : source_stmts (codes ".handlerdata") ≡ Ok (stmt 1 (HandlerData) ∷ [])
unfolding rows directives a_to_b c_to_l m_to_z fitted kind_made
handlerdata_line = alone (codes ".handlerdata") (makes.Directs directive.HandlerData) (HandlerData) (record { named = refl; kept = refl; clean = refl; brief = omega arith }) refl (λ text o. refl)

pub rodata_line : source_stmts (line (codes ".section") (codes ".rodata")) ≡ Ok (stmt 1 Rodata ∷ [])
unfolding rows directives a_to_b c_to_l m_to_z fitted kind_made
rodata_line = of_rodata (makes.Directs directive.Rodata) Rodata refl (λ text o g. refl)
