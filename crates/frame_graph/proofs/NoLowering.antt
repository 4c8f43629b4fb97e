-- Where no MOV into sp stands no frame of variable size is made.
use Rattle.std.proofs.Common.{ℕ, zero, suc, ◌≡◌, ◌&&◌, Bool, true, false, Option, Some, None, is_some, sym, ◌∙◌, ap, refl}
use Rattle.std.proofs.lemmas.Bool.{true≢false, false≢true}
use Rattle.thumb_isa.specs.declared.instr.Instr.{Instr}
use Rattle.std.specs.Prelude.{option_and_then}
use Rattle.frame_code.specs.declared.standing.Standing.{Standing}
use Rattle.frame_graph.specs.FlowGraph.{FlowGraph}
use Rattle.frame_graph.specs.Places.{standing_at}
use Rattle.frame_code.specs.Standing.{instruction_of}
use Rattle.frame_graph.specs.Edges.{instruction_at}
use Rattle.frame_code.specs.Lowering.{subtracts_into, sets_sp_from, same_register, lowers_by}
use Rattle.frame_graph.specs.Lowering.{is_lowering}

never : (a b c : Bool) → c ≡ false → false ≡ (a && b && c)
never true true c h = sym h
never true false c h = refl
never false true c h = refl
never false false c h = refl

apart : (a b : Option ℕ) → is_some b ≡ false → same_register a b ≡ false
apart None None h = refl
apart (Some d) None h = refl
apart None (Some m) h = absurd (true≢false h)
apart (Some d) (Some m) h = absurd (true≢false h)

no_pair : (o : Option Instr) (i : Instr) → is_some (sets_sp_from i) ≡ false → lowers_by o (Some i) ≡ false
no_pair None i h = refl
no_pair (Some j) i h = apart (subtracts_into j) (sets_sp_from i) h

pub lowers_nowhere : (s : FlowGraph) (reached : ℕ → Bool) (p : ℕ) (i : Instr) → instruction_at s p ≡ Some i → is_some (sets_sp_from i) ≡ false → false ≡ is_lowering s reached p
lowers_nowhere s reached zero i e h = refl
lowers_nowhere s reached (suc p) i e h =
    never (reached p) (reached (suc p)) (lowers_by (instruction_at s p) (instruction_at s (suc p)))
    (ap (lowers_by (instruction_at s p)) e ∙ no_pair (instruction_at s p) i h)

no_copy_by : (o q : Option Instr) → is_some (option_and_then sets_sp_from q) ≡ false → lowers_by o q ≡ false
no_copy_by o (Some i) h = no_pair o i h
no_copy_by None None h = refl
no_copy_by (Some j) None h = refl

-- the same by what stands at the place
pub no_copy : (s : FlowGraph) (reached : ℕ → Bool) (p : ℕ) (standing : Standing) → standing ≡ standing_at s p → is_some (option_and_then sets_sp_from (instruction_of standing)) ≡ false
    → false ≡ is_lowering s reached p
no_copy s reached zero standing e h = refl
no_copy s reached (suc p) standing e h =
    never (reached p) (reached (suc p)) (lowers_by (instruction_at s p) (instruction_at s (suc p)))
    (ap (λ (t : Standing). lowers_by (instruction_at s p) (instruction_of t)) (sym e) ∙ no_copy_by (instruction_at s p) (instruction_of standing) h)

pub lowering_is_reached : (s : FlowGraph) (reached : ℕ → Bool) (p : ℕ) → is_lowering s reached p ≡ true → reached p ≡ true
lowering_is_reached s reached zero h = absurd (false≢true h)
lowering_is_reached s reached (suc p) h = second (reached p) (reached (suc p)) (lowers_by (instruction_at s p) (instruction_at s (suc p))) h
  where
    second : (a b c : Bool) → (a && b && c) ≡ true → b ≡ true
    second true true c h = refl
    second true false c h = absurd (false≢true h)
    second false b c h = absurd (false≢true h)
