-- The causes found at a place stand in rising order of their numbers.
use Rattle.std.proofs.Common.{ℕ, ◌≡◌, ◌<◌, ◌≤◌, not, cond, List, [], ◌∷◌, ◌++◌, Bool, true, false, Option, Some, None, Result, Ok, Err, find, option_and_then, sym, subst, refl, ⊎_elim, arith}
use Rattle.std.specs.List.{Contains}
use Rattle.std.specs.Option.{option_map_or}
use Rattle.thumb_isa.specs.declared.instr.Instr.{Instr}
use Rattle.thumb_isa.specs.declared.instr.Instr.TheVariants.{Bl}
use Rattle.thumb_core.specs.Words.{numbers}
use Rattle.frame_graph.specs.run_images.Start.{begins_function}
use Rattle.frame_facts.specs.eh_bytecode.declared.recipe.Recipe.{Recipe}
use Rattle.frame_facts.specs.declared.cause.FrameCause.{FrameCause}
use Rattle.frame_facts.specs.declared.cause.FrameCause.TheVariants.{Undecodable, BranchOut, IndirectBranch, CallNotFunction, ReturnState, CallState, PadDepth, ThrowInLeafScope}
use Rattle.frame_facts.specs.declared.facts.Source.{Source}
use Rattle.frame_facts.specs.declared.facts.Fact.{Fact}
use Rattle.frame_facts.specs.declared.saves.Prologue.{Prologue}
use Rattle.frame_facts.specs.Branches.{is_indirect, return_to, returns_well}
use Rattle.frame_facts.specs.After.{effect, check_return, effect_result, after_of}
use Rattle.frame_facts.specs.Agrees.{at_site, is_lost, fails_register, has_no_room, agreement_by, agreement}
use Rattle.frame_entries.specs.declared.unwinding.EntrySummary.{EntrySummary}
use Rattle.frame_entries.specs.declared.unwinding.EntrySummary.TheVariants.{Finds, Refused, BadBytecode as BadCodes, GenericModel as Generic}
use Rattle.frame_graph.specs.Places.{address_of}
use Rattle.frame_code.specs.Branches.{call_target}
use Rattle.frame_graph.specs.Edges.{is_undecodable, branches_out, calls_nothing, instruction_at}
use Rattle.frame_graph.specs.Sites.{site_at, unwinding_at, pads_out}
use Rattle.thumb_core.specs.declared.regs.TheConstants.{LR}
use Rattle.frame_dataflow.proofs.Work.{contains_none, contains_cons}
use Rattle.frame_flow.specs.Framed.{FramedFunction}
use Rattle.frame_flow.specs.Causes.{cause_if, causes_of_result, is_call, entry_causes, throws_in_leaf, site_causes, after_at, instruction_causes, causes_at, number}
use Rattle.frame_flow.specs.Laws.{LowestIsFirst}

-- each number lies above a bound and above those before it
abbrev Rising : ℕ → List FrameCause → Type 0
Rising low [] = Unit {0}
Rising low (c ∷ more) = (low < number c) × Rising (number c) more

lower : (a b : ℕ) (l : List FrameCause) → a ≤ b → Rising b l → Rising a l
lower a b [] le h = tt
lower a b (c ∷ more) le h = (omega (arith, le, h.0), h.1)

above : (low : ℕ) (l : List FrameCause) (d : FrameCause) → Rising low l → Contains l d → low < number d
above low [] d h c = absurd (contains_none d c)
above low (b ∷ more) d h c = ⊎_elim
    (λ (e : d ≡ b). subst (λ k. low < number k) (sym e) h.0)
    (λ (t : Contains more d). let l = above (number b) more d h.1 t in omega (arith, h.0, l))
    (contains_cons d b more c)

-- a test in front
shown_rises : (low : ℕ) (test : Bool) (c : FrameCause) (l : List FrameCause) → low < number c → Rising (number c) l → Rising low (cause_if test c ++ l)
shown_rises low true c l le h = (le, h)
shown_rises low false c l le h = lower low (number c) l (omega (arith, le)) h

-- an answer in front, whose cause lies between two numbers
abbrev Between : {X : Type 0} → ℕ → ℕ → Result X FrameCause → Type 0
Between low high (Ok x) = Unit {0}
Between low high (Err c) = (low < number c) × (number c ≤ high)

answered_rises : {X : Type 0} (low high : ℕ) (r : Result X FrameCause) (l : List FrameCause) → low ≤ high → Between low high r → Rising high l → Rising low (causes_of_result r ++ l)
answered_rises low high (Ok x) l le b h = lower low high l le h
answered_rises low high (Err c) l le b h = (b.0, lower (number c) high l b.1 h)

returned_between : (pc : Option Source) (g : Fact) → Between 2 7 (check_return pc g)
returned_between None g = tt
returned_between (Some pc) g = by (returns_well g pc)
  where
    by : (b : Bool) → Between {X = Fact} 2 7 (cond b (Ok g) (Err ReturnState))
    by true = tt
    by false = (omega arith, omega arith)

gone_between : (pc : Option Source) (o : Option Fact) → Between 2 7 (effect_result pc o)
gone_between pc None = (omega arith, omega arith)
gone_between pc (Some g) = returned_between pc g

after_between : (p : Prologue) (lowers : Bool) (at : ℕ) (i : Instr) (f : Fact) → Between 2 7 (after_of p lowers at i f)
after_between p lowers at i f = by (is_indirect i f)
  where
    by : (b : Bool) → Between {X = Fact} 2 7 (cond b (Err IndirectBranch) (effect_result (return_to p i f) (effect p lowers at i f)))
    by true = (omega arith, omega arith)
    by false = gone_between (return_to p i f) (effect p lowers at i f)

answer_between : (o : Option ℕ) (lost : Bool) (base : ℕ) → Between 7 9 (agreement_by o lost base)
answer_between (Some reg) lost base = (omega arith, omega arith)
answer_between None true base = (omega arith, omega arith)
answer_between None false base = tt

agreed_between : (p : Prologue) (r : Recipe) (call : Bool) (f : Fact) → Between 7 9 (agreement p r call f)
agreed_between p r call f = let g = at_site call f in answer_between (find (fails_register p r call g) numbers) (is_lost r g) r.base

-- ---- sites

unwound_rises : (p : Prologue) (u : EntrySummary) (call : Bool) (f : Fact) (l : List FrameCause) → Rising 9 l → Rising 7 (entry_causes p u call f ++ l)
unwound_rises p (Finds r) call f l h = answered_rises 7 9 (agreement p r call f) l (omega arith) (agreed_between p r call f) h
unwound_rises p Refused call f l h = shown_rises 7 (has_no_room call f LR) (CallState LR) l (omega arith) (lower 8 9 l (omega arith) h)
unwound_rises p BadCodes call f l h = shown_rises 7 (has_no_room call f LR) (CallState LR) l (omega arith) (lower 8 9 l (omega arith) h)
unwound_rises p Generic call f l h = shown_rises 7 (has_no_room call f LR) (CallState LR) l (omega arith) (lower 8 9 l (omega arith) h)

shown_alone : (low : ℕ) (test : Bool) (c : FrameCause) → low < number c → Rising low (cause_if test c)
shown_alone low true c le = (le, tt)
shown_alone low false c le = tt

site_rises : (x : FramedFunction) (call : Bool) (f : Fact) (o : Option ℕ) → Rising 7 (option_map_or (site_causes x call f) o [])
site_rises x call f None = tt
site_rises x call f (Some site) =
    unwound_rises x.prologue (unwinding_at x.flow_graph site) call f (cause_if (pads_out x.flow_graph site) PadDepth ++ cause_if (throws_in_leaf x.flow_graph site call f) ThrowInLeafScope)
    (shown_rises 9 (pads_out x.flow_graph site) PadDepth (cause_if (throws_in_leaf x.flow_graph site call f) ThrowInLeafScope) (omega arith)
    (shown_alone 12 (throws_in_leaf x.flow_graph site call f) ThrowInLeafScope (omega arith)))

-- ---- places

instruction_rises : (x : FramedFunction) (p : ℕ) (f : Fact) (i : Instr) → Rising 2 (instruction_causes x p f i)
instruction_rises x p f i = answered_rises 2 7 (after_at x p f i) (option_map_or (site_causes x (is_call i) f) (site_at x.flow_graph p) []) (omega arith)
    (after_between x.prologue (x.lowers p) (address_of x.flow_graph p) i f) (site_rises x (is_call i) f (site_at x.flow_graph p))

-- BL shows no cause by its effect
call_is_fine : (x : FramedFunction) (p : ℕ) (f : Fact) (i : Instr) (t : ℕ) → call_target (address_of x.flow_graph p) i ≡ Some t → causes_of_result (after_at x p f i) ≡ []
call_is_fine x p f (Bl off) t h = refl
call_is_fine x p f i t h = absurd cc

-- what no function is called by, and then what the instruction shows
abbrev calls : FramedFunction → Option ℕ → Bool
calls x o = option_map_or (λ a. not (begins_function x.flow_graph.image.functions a)) o false

call_rises : (x : FramedFunction) (p : ℕ) (f : Fact) (i : Instr) (o : Option ℕ) → call_target (address_of x.flow_graph p) i ≡ o → Rising 2 (cause_if (calls x o) CallNotFunction ++ instruction_causes x p f i)
call_rises x p f i None e = instruction_rises x p f i
call_rises x p f i (Some t) e =
    let sites = option_map_or (site_causes x (is_call i) f) (site_at x.flow_graph p) [] in
    subst (λ l. Rising 2 (cause_if (calls x (Some t)) CallNotFunction ++ (l ++ sites))) (sym (call_is_fine x p f i t e))
    (shown_rises 2 (calls x (Some t)) CallNotFunction sites (omega arith) (lower 4 7 sites (omega arith) (site_rises x (is_call i) f (site_at x.flow_graph p))))

place_rises : (x : FramedFunction) (p : ℕ) (f : Fact) (o : Option Instr)
    → Rising 2 (cause_if (calls x (option_and_then (call_target (address_of x.flow_graph p)) o)) CallNotFunction ++ option_map_or (instruction_causes x p f) o [])
place_rises x p f None = tt
place_rises x p f (Some i) = call_rises x p f i (call_target (address_of x.flow_graph p) i) refl

found_rises : (x : FramedFunction) (p : ℕ) (f : Fact) → Rising 0 (causes_at x p f)
unfolding causes_at
found_rises x p f =
    let more = cause_if (calls_nothing x.flow_graph p) CallNotFunction ++ option_map_or (instruction_causes x p f) (instruction_at x.flow_graph p) [] in
    shown_rises 0 (is_undecodable x.flow_graph p) Undecodable (cause_if (branches_out x.flow_graph p) BranchOut ++ more) (omega arith)
    (shown_rises 1 (branches_out x.flow_graph p) BranchOut more (omega arith) (place_rises x p f (instruction_at x.flow_graph p)))

pub lowest_is_first : LowestIsFirst
lowest_is_first x p f c d more e h = above (number c) more d (subst (λ l. Rising 0 l) e (found_rises x p f)).1 h
