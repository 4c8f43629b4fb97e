-- What the tests of a place answer, one after the other.
use Rattle.std.proofs.Common.{ℕ, ◌≡◌, List, [], ◌∷◌, ◌++◌, Bool, true, false, Option, Some, None, Result, Ok, Err, option_and_then, sym, ◌∙◌, ap, subst, refl}
use Rattle.std.specs.Option.{option_map_or}
use Rattle.thumb_isa.specs.declared.instr.Instr.{Instr}
use Rattle.frame_facts.specs.declared.cause.FrameCause.{FrameCause}
use Rattle.frame_facts.specs.declared.cause.FrameCause.TheVariants.{Undecodable, BranchOut, CallNotFunction}
use Rattle.frame_facts.specs.declared.facts.Fact.{Fact}
use Rattle.frame_code.specs.declared.standing.Standing.{Standing}
use Rattle.frame_code.specs.declared.standing.Standing.TheVariants.{Instruction, Udf, Nothing}
use Rattle.frame_code.specs.Standing.{instruction_of}
use Rattle.frame_graph.specs.Edges.{is_undecodable, branches_out, calls_nothing, instruction_at}
use Rattle.frame_graph.specs.Sites.{site_at}
use Rattle.frame_flow.specs.Framed.{FramedFunction, Parts, framed_view}
use Rattle.frame_flow.specs.Causes.{cause_if, causes_of_result, is_call, site_causes, after_at, instruction_causes, causes_at}
use Rattle.frame_flow.specs.Flows.{fact_of, fact_after}
use Rattle.frame_flow.specs.Work.{by_first, pass_place}

-- a test in front of other causes
shown_true : {X : Type 0} (test : Bool) (c : FrameCause) (more : List FrameCause) (o : X) → test ≡ true → Err c ≡ by_first (cause_if test c ++ more) o
shown_true true c more o e = refl
shown_true false c more o e = absurd cc

shown_false : {X : Type 0} (test : Bool) (c : FrameCause) (more : List FrameCause) (o : X) → test ≡ false → by_first more o ≡ by_first (cause_if test c ++ more) o
shown_false true c more o e = absurd cc
shown_false false c more o e = refl

-- the place alone shows no cause
pub record IsFine (x : FramedFunction) (p : ℕ) : Type 0 where
  pub decodes : is_undecodable x.flow_graph p ≡ false
  pub stays : branches_out x.flow_graph p ≡ false
  pub calls : calls_nothing x.flow_graph p ≡ false

-- what its instruction shows, and the fact after it
abbrev Rest : FramedFunction → ℕ → Fact → Result (Option Fact) FrameCause
Rest x p f = by_first (option_map_or (instruction_causes x p f) (instruction_at x.flow_graph p) []) (fact_after x p f)

pub at_undecodable : (x : FramedFunction) (p : ℕ) (f : Fact) → is_undecodable x.flow_graph p ≡ true → Err Undecodable ≡ pass_place x p f
unfolding causes_at
at_undecodable x p f e = shown_true (is_undecodable x.flow_graph p) Undecodable
    (cause_if (branches_out x.flow_graph p) BranchOut ++ (cause_if (calls_nothing x.flow_graph p) CallNotFunction ++ option_map_or (instruction_causes x p f) (instruction_at x.flow_graph p) []))
    (fact_after x p f) e

pub at_branch : (x : FramedFunction) (p : ℕ) (f : Fact) → is_undecodable x.flow_graph p ≡ false → branches_out x.flow_graph p ≡ true → Err BranchOut ≡ pass_place x p f
unfolding causes_at
at_branch x p f d e =
    let more = cause_if (calls_nothing x.flow_graph p) CallNotFunction ++ option_map_or (instruction_causes x p f) (instruction_at x.flow_graph p) [] in
    shown_true (branches_out x.flow_graph p) BranchOut more (fact_after x p f) e
    ∙ shown_false (is_undecodable x.flow_graph p) Undecodable (cause_if (branches_out x.flow_graph p) BranchOut ++ more) (fact_after x p f) d

pub at_call : (x : FramedFunction) (p : ℕ) (f : Fact) → is_undecodable x.flow_graph p ≡ false → branches_out x.flow_graph p ≡ false → calls_nothing x.flow_graph p ≡ true → Err CallNotFunction ≡ pass_place x p f
unfolding causes_at
at_call x p f d b e =
    let last = option_map_or (instruction_causes x p f) (instruction_at x.flow_graph p) [] in
    let more = cause_if (calls_nothing x.flow_graph p) CallNotFunction ++ last in
    shown_true (calls_nothing x.flow_graph p) CallNotFunction last (fact_after x p f) e
    ∙ shown_false (branches_out x.flow_graph p) BranchOut more (fact_after x p f) b
    ∙ shown_false (is_undecodable x.flow_graph p) Undecodable (cause_if (branches_out x.flow_graph p) BranchOut ++ more) (fact_after x p f) d

at_rest : (x : FramedFunction) (p : ℕ) (f : Fact) → IsFine x p → Rest x p f ≡ pass_place x p f
unfolding causes_at
at_rest x p f fine =
    let last = option_map_or (instruction_causes x p f) (instruction_at x.flow_graph p) [] in
    let more = cause_if (calls_nothing x.flow_graph p) CallNotFunction ++ last in
    shown_false (calls_nothing x.flow_graph p) CallNotFunction last (fact_after x p f) fine.calls
    ∙ shown_false (branches_out x.flow_graph p) BranchOut more (fact_after x p f) fine.stays
    ∙ shown_false (is_undecodable x.flow_graph p) Undecodable (cause_if (branches_out x.flow_graph p) BranchOut ++ more) (fact_after x p f) fine.decodes

-- where an instruction stands, by what its effect and its site answer
abbrev Here : FramedFunction → ℕ → Fact → Option Instr → Result (Option Fact) FrameCause
Here x p f o = by_first (option_map_or (instruction_causes x p f) o []) (option_and_then (λ i. fact_of (after_at x p f i)) o)

here_is : (x : FramedFunction) (p : ℕ) (f : Fact) → Here x p f (instruction_at x.flow_graph p) ≡ Rest x p f
unfolding fact_after
here_is x p f = refl

here : (x : FramedFunction) (p : ℕ) (f : Fact) (o : Option Instr) → IsFine x p → instruction_at x.flow_graph p ≡ o → Here x p f o ≡ pass_place x p f
here x p f o fine e = ap (Here x p f) (sym e) ∙ here_is x p f ∙ at_rest x p f fine

pub at_nothing : (x : FramedFunction) (p : ℕ) (f : Fact) → IsFine x p → instruction_at x.flow_graph p ≡ None → Ok None ≡ pass_place x p f
at_nothing x p f fine e = here x p f None fine e

abbrev By : FramedFunction → ℕ → Fact → Instr → Result Fact FrameCause → Option ℕ → Result (Option Fact) FrameCause
By x p f i r o = by_first (causes_of_result r ++ option_map_or (site_causes x (is_call i) f) o []) (fact_of r)

by_these : (x : FramedFunction) (p : ℕ) (f : Fact) (i : Instr) (r : Result Fact FrameCause) (o : Option ℕ) → IsFine x p → instruction_at x.flow_graph p ≡ Some i → after_at x p f i ≡ r → site_at x.flow_graph p ≡ o
    → By x p f i r o ≡ pass_place x p f
by_these x p f i r o fine e a s = ap (λ q. By x p f i q o) (sym a) ∙ ap (By x p f i (after_at x p f i)) (sym s) ∙ here x p f (Some i) fine e

pub at_effect : (x : FramedFunction) (p : ℕ) (f : Fact) (i : Instr) (c : FrameCause) → IsFine x p → instruction_at x.flow_graph p ≡ Some i → after_at x p f i ≡ Err c → Err c ≡ pass_place x p f
at_effect x p f i c fine e a = by_these x p f i (Err c) (site_at x.flow_graph p) fine e a refl

first_site : (l : List FrameCause) (g : Fact) (c : FrameCause) → by_first {X = Unit {0}} l tt ≡ Err c → Err c ≡ by_first l (Some g)
first_site [] g c h = absurd cc
first_site (d ∷ more) g c h = cc

no_site : (l : List FrameCause) (g : Fact) → by_first {X = Unit {0}} l tt ≡ Ok tt → Ok (Some g) ≡ by_first l (Some g)
no_site [] g h = refl
no_site (d ∷ more) g h = absurd cc

pub at_site : (x : FramedFunction) (p : ℕ) (f : Fact) (i : Instr) (g : Fact) (site : ℕ) (c : FrameCause) → IsFine x p → instruction_at x.flow_graph p ≡ Some i → after_at x p f i ≡ Ok g → site_at x.flow_graph p ≡ Some site
    → by_first {X = Unit {0}} (site_causes x (is_call i) f site) tt ≡ Err c → Err c ≡ pass_place x p f
at_site x p f i g site c fine e a s h = first_site (site_causes x (is_call i) f site) g c h ∙ by_these x p f i (Ok g) (Some site) fine e a s

pub at_fine_site : (x : FramedFunction) (p : ℕ) (f : Fact) (i : Instr) (g : Fact) (site : ℕ) → IsFine x p → instruction_at x.flow_graph p ≡ Some i → after_at x p f i ≡ Ok g → site_at x.flow_graph p ≡ Some site
    → by_first {X = Unit {0}} (site_causes x (is_call i) f site) tt ≡ Ok tt → Ok (Some g) ≡ pass_place x p f
at_fine_site x p f i g site fine e a s h = no_site (site_causes x (is_call i) f site) g h ∙ by_these x p f i (Ok g) (Some site) fine e a s

pub at_no_site : (x : FramedFunction) (p : ℕ) (f : Fact) (i : Instr) (g : Fact) → IsFine x p → instruction_at x.flow_graph p ≡ Some i → after_at x p f i ≡ Ok g → site_at x.flow_graph p ≡ None → Ok (Some g) ≡ pass_place x p f
at_no_site x p f i g fine e a s = by_these x p f i (Ok g) None fine e a s

pub agreed_seen : (x y : Parts) (i : Instr) (b : Bool) (f : Fact) (site : ℕ) (r s : Result (Unit {0}) FrameCause) → x ≡ y → b ≡ is_call i → r ≡ by_first {X = Unit {0}} (site_causes (framed_view y) b f site) tt → r ≡ s
    → by_first {X = Unit {0}} (site_causes (framed_view x) (is_call i) f site) tt ≡ s
agreed_seen x y i b f site r s e call h is =
    subst (λ z. by_first {X = Unit {0}} (site_causes (framed_view z) (is_call i) f site) tt ≡ s) (sym e)
    (ap (λ k. by_first {X = Unit {0}} (site_causes (framed_view y) k f site) tt) (sym call) ∙ sym h ∙ is)

-- what stands there is no instruction
pub no_instruction : (t : Standing) → ((i : Instr) (size : ℕ) → t ≡ Instruction i size → ⊥) → instruction_of t ≡ None
no_instruction (Instruction i size) h = absurd (h i size refl)
no_instruction Udf h = refl
no_instruction Nothing h = refl

-- a function that is seen as its fields
pub seen : (x y : Parts) (p : ℕ) (f : Fact) (r : Result (Option Fact) FrameCause) → x ≡ y → r ≡ pass_place (framed_view x) p f → r ≡ pass_place (framed_view y) p f
seen x y p f r e h = subst (λ z. r ≡ pass_place (framed_view z) p f) e h
