-- Statements with a register list.
use Rattle.std.proofs.Common.{◌≡◌, ℕ, ◌^◌, ◌<◌, ◌≤◌, Bool, true, List, [], ◌∷◌, ◌++◌, Ok, pos, refl, ap, subst, ◌∙◌, arith, codes}
use Rattle.asm_read.specs.declared.form.Operands.{Operands}
use Rattle.asm_read.specs.declared.makes.Makes.{Makes}
use Rattle.asm_read.specs.declared.makes.Makes.TheVariants as makes
use Rattle.asm_read.specs.declared.makes.Transfer.TheVariants as transfer
use Rattle.asm_read.specs.declared.makes.Directive.TheVariants as directive
use Rattle.asm_statements.specs.declared.statement.StmtKind.{StmtKind}
use Rattle.asm_statements.specs.declared.statement.StmtKind.TheVariants.{Push, Pop, Stm, LdmBack, Ldm, Save}
use Rattle.asm_read.specs.Operands.{has_register}
use Rattle.asm_read.specs.Forms.{directives, a_to_b, c_to_l, m_to_z, rows}
use Rattle.asm_line_laws.proofs.Pieces.{base_list, base_back_list}
use Rattle.asm_read.specs.Statements.{kind_of as kind_made}
use Rattle.asm_read.specs.Reading.{stmt, source_stmts}
use Rattle.asm_line_laws.specs.Written.{register, registers_from, list_in_braces, line}
use Rattle.asm_line_laws.proofs.Lists.{list_toks, masked}
use Rattle.asm_line_laws.proofs.Items.{Item, reg, sign, regs}
use Rattle.asm_line_laws.proofs.Fitted.{Vals, none_yet, Agrees, Step, went, refused, if_so, and_then, fitted}
use Rattle.asm_line_laws.proofs.Chosen.{picked, chosen}
use Rattle.asm_line_laws.proofs.Standing.{cost, costs, IsMnemonic, stands, comma_ends, values}
use Rattle.asm_line_laws.proofs.Braces.{braced_is, are_registers, few_registers, registers_are, close_all_ends, list_costs, brace_ends, exclamation_ends}

-- the values of a register and the registers of a list
abbrev listing : ℕ → ℕ → Vals
listing a list = record (values a 0 0 (pos 0) []) { list = masked 0 (registers_from list 16) }

list_short : (list : ℕ) → costs (list_toks (registers_from list 16) []) ≤ 82
list_short list = omega (arith, list_costs (registers_from list 16), few_registers list 16)

of_list : (w : List ℕ) (m : Makes) (k : StmtKind) (list : ℕ) → IsMnemonic w → chosen rows w (regs (registers_from list 16) ∷ []) ≡ picked m (listing 0 list) → ((text : List ℕ) (o : Operands) → Agrees text o (listing 0 list) → kind_made text (record { makes = m; operands = o }) ≡ k) → source_stmts (line w (list_in_braces list)) ≡ Ok (stmt 1 k ∷ [])
unfolding cost costs
of_list w m k list is choice makes =
    let short = list_short list in
    subst (λ x. source_stmts (line w x) ≡ Ok (stmt 1 k ∷ [])) (braced_is list)
    (stands w (regs (registers_from list 16) ∷ []) m (listing 0 list) k is (omega arith) (brace_ends _, close_all_ends (registers_from list 16) (are_registers list 16)) refl (omega arith) choice makes)

of_back_list : (w : List ℕ) (m : Makes) (k : StmtKind) (a list : ℕ) → IsMnemonic w → a < 16 → chosen rows w (reg a ∷ sign 33 ∷ sign 44 ∷ regs (registers_from list 16) ∷ []) ≡ picked m (listing a list) → ((text : List ℕ) (o : Operands) → Agrees text o (listing a list) → kind_made text (record { makes = m; operands = o }) ≡ k) → source_stmts (line w (register a ++ (codes "!, " ++ list_in_braces list))) ≡ Ok (stmt 1 k ∷ [])
unfolding cost costs
of_back_list w m k a list is ha choice makes =
    let short = list_short list in
    subst (λ x. source_stmts (line w (register a ++ (codes "!, " ++ x))) ≡ Ok (stmt 1 k ∷ [])) (braced_is list)
    (stands w (reg a ∷ sign 33 ∷ sign 44 ∷ regs (registers_from list 16) ∷ []) m (listing a list) k is (omega arith) ((ha, refl), (exclamation_ends _, (comma_ends _, (brace_ends _, close_all_ends (registers_from list 16) (are_registers list 16))))) refl (omega arith) choice makes)

of_base_list : (w : List ℕ) (m : Makes) (k : StmtKind) (a list : ℕ) → IsMnemonic w → a < 16 → chosen rows w (reg a ∷ sign 44 ∷ regs (registers_from list 16) ∷ []) ≡ picked m (listing a list) → ((text : List ℕ) (o : Operands) → Agrees text o (listing a list) → kind_made text (record { makes = m; operands = o }) ≡ k) → source_stmts (line w (register a ++ (codes ", " ++ list_in_braces list))) ≡ Ok (stmt 1 k ∷ [])
unfolding cost costs
of_base_list w m k a list is ha choice makes =
    let short = list_short list in
    subst (λ x. source_stmts (line w (register a ++ (codes ", " ++ x))) ≡ Ok (stmt 1 k ∷ [])) (braced_is list)
    (stands w (reg a ∷ sign 44 ∷ regs (registers_from list 16) ∷ []) m (listing a list) k is (omega arith) ((ha, refl), (comma_ends _, (brace_ends _, close_all_ends (registers_from list 16) (are_registers list 16)))) refl (omega arith) choice makes)

pub push_line : (list : ℕ) → list < 2 ^ 16 → source_stmts (line (codes "push") (list_in_braces list)) ≡ Ok (stmt 1 (Push list) ∷ [])
unfolding rows directives a_to_b c_to_l m_to_z fitted kind_made
push_line list h =
    of_list (codes "push") (makes.Transfers transfer.Push) (Push (masked 0 (registers_from list 16))) list (record { named = refl; kept = refl; clean = refl; brief = omega arith }) refl (λ text o g. cc (g.list))
    ∙ ap (λ x. Ok (stmt 1 (Push x) ∷ [])) (registers_are list h)

pub pop_line : (list : ℕ) → list < 2 ^ 16 → source_stmts (line (codes "pop") (list_in_braces list)) ≡ Ok (stmt 1 (Pop list) ∷ [])
unfolding rows directives a_to_b c_to_l m_to_z fitted kind_made
pop_line list h =
    of_list (codes "pop") (makes.Transfers transfer.Pop) (Pop (masked 0 (registers_from list 16))) list (record { named = refl; kept = refl; clean = refl; brief = omega arith }) refl (λ text o g. cc (g.list))
    ∙ ap (λ x. Ok (stmt 1 (Pop x) ∷ [])) (registers_are list h)

pub save_line : (list : ℕ) → list < 2 ^ 16 → source_stmts (line (codes ".save") (list_in_braces list)) ≡ Ok (stmt 1 (Save list) ∷ [])
unfolding rows directives a_to_b c_to_l m_to_z fitted kind_made
save_line list h =
    of_list (codes ".save") (makes.Directs directive.Save) (Save (masked 0 (registers_from list 16))) list (record { named = refl; kept = refl; clean = refl; brief = omega arith }) refl (λ text o g. cc (g.list))
    ∙ ap (λ x. Ok (stmt 1 (Save x) ∷ [])) (registers_are list h)

pub stm_line : (a list : ℕ) → a < 16 → list < 2 ^ 16 → source_stmts (line (codes "stm") (register a ++ (codes "!, " ++ list_in_braces list))) ≡ Ok (stmt 1 (Stm a list) ∷ [])
unfolding rows directives a_to_b c_to_l m_to_z fitted kind_made
stm_line a list ha h =
    of_back_list (codes "stm") (makes.Transfers transfer.Stm) (Stm a (masked 0 (registers_from list 16))) a list (record { named = refl; kept = refl; clean = refl; brief = omega arith }) ha refl (λ text o g. cc (g.list, g.first))
    ∙ ap (λ x. Ok (stmt 1 (Stm a x) ∷ [])) (registers_are list h)

pub ldm_back_line : (a list : ℕ) → a < 16 → list < 2 ^ 16 → source_stmts (line (codes "ldm") (register a ++ (codes "!, " ++ list_in_braces list))) ≡ Ok (stmt 1 (LdmBack a list) ∷ [])
unfolding rows directives a_to_b c_to_l m_to_z fitted kind_made
ldm_back_line a list ha h =
    of_back_list (codes "ldm") (makes.Transfers transfer.LdmBack) (LdmBack a (masked 0 (registers_from list 16))) a list (record { named = refl; kept = refl; clean = refl; brief = omega arith }) ha refl (λ text o g. cc (g.list, g.first))
    ∙ ap (λ x. Ok (stmt 1 (LdmBack a x) ∷ [])) (registers_are list h)

then_so : (b : Bool) (ts : List Item) (v : Vals) (f : List Item → Vals → Step) (s : Step) → b ≡ true → f ts v ≡ s → and_then (if_so b ts v) f ≡ s
then_so b ts v f s h e = rw h e

base_went : (a list : ℕ) → has_register (masked 0 (registers_from list 16)) a ≡ true → fitted base_list (reg a ∷ sign 44 ∷ regs (registers_from list 16) ∷ []) none_yet ≡ went [] (listing a list)
unfolding fitted
base_went a list h = then_so (has_register (masked 0 (registers_from list 16)) a) _ _ _ _ h refl

back_refused : (a list : ℕ) → fitted base_back_list (reg a ∷ sign 44 ∷ regs (registers_from list 16) ∷ []) none_yet ≡ refused
unfolding fitted
back_refused a list = refl

base_rows : (a list : ℕ) → has_register (masked 0 (registers_from list 16)) a ≡ true → chosen rows (codes "ldm") (reg a ∷ sign 44 ∷ regs (registers_from list 16) ∷ []) ≡ picked (makes.Transfers transfer.Ldm) (listing a list)
unfolding rows directives a_to_b c_to_l m_to_z
base_rows a list h = rw (back_refused a list, base_went a list h) refl

pub ldm_line : (a list : ℕ) → a < 16 → list < 2 ^ 16 → has_register list a ≡ true → source_stmts (line (codes "ldm") (register a ++ (codes ", " ++ list_in_braces list))) ≡ Ok (stmt 1 (Ldm a list) ∷ [])
unfolding kind_made
ldm_line a list ha h has =
    of_base_list (codes "ldm") (makes.Transfers transfer.Ldm) (Ldm a (masked 0 (registers_from list 16))) a list (record { named = refl; kept = refl; clean = refl; brief = omega arith }) ha (base_rows a list (ap (λ x. has_register x a) (registers_are list h) ∙ has)) (λ text o g. cc (g.list, g.first))
    ∙ ap (λ x. Ok (stmt 1 (Ldm a x) ∷ [])) (registers_are list h)
