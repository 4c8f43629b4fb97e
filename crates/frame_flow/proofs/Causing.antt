-- The causes found at a place: when there are none, and which are met.
use Rattle.std.proofs.Common.{ℕ, ◌≡◌, ◌==◌, ◌&&◌, ◌||◌, ◌⊎◌, inl, inr, not, nat_lt, List, [], ◌∷◌, ◌++◌, Bool, true, false, Option, Some, None, Result, Ok, Err, sym, ◌∙◌, ap, subst, refl, ⊎_elim}
use Rattle.std.proofs.lemmas.Bool.{true≢false, false≢true, eqb-true, eq-eqb, and_from}
use Rattle.std.specs.List.{Contains, list_any}
use Rattle.std.specs.Option.{option_map_or}
use Rattle.thumb_isa.specs.declared.instr.Instr.{Instr}
use Rattle.thumb_core.specs.declared.regs.TheConstants.{LR}
use Rattle.frame_facts.specs.declared.cause.FrameCause.{FrameCause}
use Rattle.frame_facts.specs.declared.cause.FrameCause.TheVariants.{Undecodable, BranchOut, IndirectBranch, CallNotFunction, SpWrite, JoinDepth, ReturnState, CallState, FramePointerLost, BadBytecode, BadDescriptor, PadDepth, ThrowInLeafScope, SplitEntry, GenericModel, TooLong}
use Rattle.frame_facts.specs.declared.facts.Fact.{Fact}
use Rattle.frame_facts.specs.declared.saves.Prologue.{Prologue}
use Rattle.frame_facts.specs.Facts.{IsAtMost}
use Rattle.frame_facts.specs.Agrees.{has_no_room, agreement}
use Rattle.frame_facts.proofs.Agreeing.{agrees_vaguer}
use Rattle.frame_facts.proofs.Following.{after_vaguer}
use Rattle.frame_entries.specs.declared.unwinding.EntrySummary.{EntrySummary}
use Rattle.frame_entries.specs.declared.unwinding.EntrySummary.TheVariants.{Finds, Refused, BadBytecode as BadCodes, GenericModel as Generic}
use Rattle.frame_graph.specs.Places.{address_of}
use Rattle.frame_graph.specs.Edges.{is_undecodable, branches_out, calls_nothing, instruction_at}
use Rattle.frame_graph.specs.Sites.{site_at, unwinding_at, is_scoped, pads_out}
use Rattle.frame_dataflow.specs.Flow.{Passes}
use Rattle.frame_dataflow.proofs.Work.{contains_none, contains_cons, contains_head, contains_tail}
use Rattle.frame_flow.specs.Framed.{FramedFunction}
use Rattle.frame_flow.specs.Causes.{cause_if, causes_of_result, is_call, entry_causes, throws_in_leaf, site_causes, after_at, instruction_causes, causes_at, number, register, same_register, same_cause, meets_cause}
use Rattle.frame_flow.specs.Flows.{flow_of}
use Rattle.frame_flow.specs.Laws.{FoundAreMet}

-- ---- lists with no element

pub both_nil : {X : Type 0} (xs ys : List X) → xs ++ ys ≡ [] → (xs ≡ []) × (ys ≡ [])
both_nil [] ys h = (refl, h)
both_nil (x ∷ xs) ys h = absurd cc

pub from_nils : {X : Type 0} (xs ys : List X) → xs ≡ [] → ys ≡ [] → xs ++ ys ≡ []
from_nils [] ys e h = h
from_nils (x ∷ xs) ys e h = absurd cc

-- ---- a fact that is less vague meets no more

pub answered_ok : {X : Type 0} (r : Result X FrameCause) → causes_of_result r ≡ [] → (x : X) × (r ≡ Ok x)
answered_ok (Ok x) h = (x, refl)
answered_ok (Err c) h = absurd cc

room_vaguer : (call : Bool) (f g : Fact) → IsAtMost f g → cause_if (has_no_room call g LR) (CallState LR) ≡ [] → cause_if (has_no_room call f LR) (CallState LR) ≡ []
room_vaguer call f g x h = ap (λ d. cause_if (call && (LR == 14) && nat_lt d 4) (CallState LR)) x.depth ∙ h

unwound_vaguer : (p : Prologue) (u : EntrySummary) (call : Bool) (f g : Fact) → IsAtMost f g → entry_causes p u call g ≡ [] → entry_causes p u call f ≡ []
unwound_vaguer p (Finds r) call f g x h = let w = answered_ok (agreement p r call g) h in ap causes_of_result (agrees_vaguer p r call f g x w.1)
unwound_vaguer p Refused call f g x h = room_vaguer call f g x h
unwound_vaguer p BadCodes call f g x h = room_vaguer call f g x h
unwound_vaguer p Generic call f g x h = room_vaguer call f g x h

site_vaguer : (x : FramedFunction) (call : Bool) (f g : Fact) (site : ℕ) → IsAtMost f g → site_causes x call g site ≡ [] → site_causes x call f site ≡ []
site_vaguer x call f g site m h =
    let s = x.flow_graph in
    let a = both_nil (entry_causes x.prologue (unwinding_at s site) call g) (cause_if (pads_out s site) PadDepth ++ cause_if (throws_in_leaf s site call g) ThrowInLeafScope) h in
    let b = both_nil (cause_if (pads_out s site) PadDepth) (cause_if (throws_in_leaf s site call g) ThrowInLeafScope) a.1 in
    from_nils (entry_causes x.prologue (unwinding_at s site) call f) (cause_if (pads_out s site) PadDepth ++ cause_if (throws_in_leaf s site call f) ThrowInLeafScope)
    (unwound_vaguer x.prologue (unwinding_at s site) call f g m a.0)
    (from_nils (cause_if (pads_out s site) PadDepth) (cause_if (throws_in_leaf s site call f) ThrowInLeafScope) b.0
    (ap (λ d. cause_if (not call && (d == 0) && is_scoped s site) ThrowInLeafScope) m.depth ∙ b.1))

sites_vaguer : (x : FramedFunction) (call : Bool) (f g : Fact) (o : Option ℕ) → IsAtMost f g → option_map_or (site_causes x call g) o [] ≡ [] → option_map_or (site_causes x call f) o [] ≡ []
sites_vaguer x call f g None m h = refl
sites_vaguer x call f g (Some site) m h = site_vaguer x call f g site m h

instruction_vaguer : (x : FramedFunction) (p : ℕ) (f g : Fact) (i : Instr) → IsAtMost f g → instruction_causes x p g i ≡ [] → instruction_causes x p f i ≡ []
instruction_vaguer x p f g i m h =
    let a = both_nil (causes_of_result (after_at x p g i)) (option_map_or (site_causes x (is_call i) g) (site_at x.flow_graph p) []) h in
    let w = answered_ok (after_at x p g i) a.0 in
    let v = after_vaguer x.prologue (x.lowers p) (address_of x.flow_graph p) i f g w.0 m w.1 in
    from_nils (causes_of_result (after_at x p f i)) (option_map_or (site_causes x (is_call i) f) (site_at x.flow_graph p) [])
    (ap causes_of_result v.1) (sites_vaguer x (is_call i) f g (site_at x.flow_graph p) m a.1)

instructions_vaguer : (x : FramedFunction) (p : ℕ) (f g : Fact) (o : Option Instr) → IsAtMost f g → option_map_or (instruction_causes x p g) o [] ≡ [] → option_map_or (instruction_causes x p f) o [] ≡ []
instructions_vaguer x p f g None m h = refl
instructions_vaguer x p f g (Some i) m h = instruction_vaguer x p f g i m h

-- what is found at a place whatever the fact, and then what its instruction shows
abbrev split : FramedFunction → ℕ → List FrameCause → List FrameCause
split x p more = cause_if (is_undecodable x.flow_graph p) Undecodable ++ (cause_if (branches_out x.flow_graph p) BranchOut ++ (cause_if (calls_nothing x.flow_graph p) CallNotFunction ++ more))

pub found_parts : (x : FramedFunction) (p : ℕ) (f : Fact) → causes_at x p f ≡ []
    → (cause_if (is_undecodable x.flow_graph p) Undecodable ≡ []) × (cause_if (branches_out x.flow_graph p) BranchOut ≡ []) × (cause_if (calls_nothing x.flow_graph p) CallNotFunction ≡ [])
    × (option_map_or (instruction_causes x p f) (instruction_at x.flow_graph p) [] ≡ [])
unfolding causes_at
found_parts x p f h =
    let d = option_map_or (instruction_causes x p f) (instruction_at x.flow_graph p) [] in
    let c = cause_if (calls_nothing x.flow_graph p) CallNotFunction in
    let b = cause_if (branches_out x.flow_graph p) BranchOut in
    let u = both_nil (cause_if (is_undecodable x.flow_graph p) Undecodable) (b ++ (c ++ d)) h in
    let v = both_nil b (c ++ d) u.1 in
    let w = both_nil c d v.1 in
    (u.0, v.0, w.0, w.1)

pub parts_found : (x : FramedFunction) (p : ℕ) (f : Fact) → cause_if (is_undecodable x.flow_graph p) Undecodable ≡ [] → cause_if (branches_out x.flow_graph p) BranchOut ≡ [] → cause_if (calls_nothing x.flow_graph p) CallNotFunction ≡ []
    → option_map_or (instruction_causes x p f) (instruction_at x.flow_graph p) [] ≡ [] → causes_at x p f ≡ []
unfolding causes_at
parts_found x p f u v w h =
    let d = option_map_or (instruction_causes x p f) (instruction_at x.flow_graph p) [] in
    let c = cause_if (calls_nothing x.flow_graph p) CallNotFunction in
    let b = cause_if (branches_out x.flow_graph p) BranchOut in
    from_nils (cause_if (is_undecodable x.flow_graph p) Undecodable) (b ++ (c ++ d)) u (from_nils b (c ++ d) v (from_nils c d w h))

pub found_vaguer : (x : FramedFunction) (p : ℕ) (f g : Fact) → IsAtMost f g → causes_at x p g ≡ [] → causes_at x p f ≡ []
found_vaguer x p f g m h =
    let w = found_parts x p g h in
    parts_found x p f w.0 w.1 w.2 (instructions_vaguer x p f g (instruction_at x.flow_graph p) m w.3)

-- ---- which causes are met

self_register : (r : Option ℕ) → same_register r r ≡ true
self_register None = refl
self_register (Some a) = eq-eqb a a refl

pub same_self : (c : FrameCause) → same_cause c c ≡ true
same_self c = and_from (number c == number c) (same_register (register c) (register c)) (eq-eqb (number c) (number c) refl) (self_register (register c))

-- the same number and the same register
same_is : (a b : FrameCause) → same_cause a b ≡ true → a ≡ b
same_is Undecodable Undecodable h = refl
same_is BranchOut BranchOut h = refl
same_is IndirectBranch IndirectBranch h = refl
same_is CallNotFunction CallNotFunction h = refl
same_is SpWrite SpWrite h = refl
same_is JoinDepth JoinDepth h = refl
same_is ReturnState ReturnState h = refl
same_is (CallState r) (CallState s) h = ap CallState (eqb-true r s h)
same_is (FramePointerLost r) (FramePointerLost s) h = ap FramePointerLost (eqb-true r s h)
same_is BadBytecode BadBytecode h = refl
same_is BadDescriptor BadDescriptor h = refl
same_is PadDepth PadDepth h = refl
same_is ThrowInLeafScope ThrowInLeafScope h = refl
same_is SplitEntry SplitEntry h = refl
same_is GenericModel GenericModel h = refl
same_is TooLong TooLong h = refl
same_is a b h = absurd (false≢true h)

or_cases : (a b : Bool) → (a || b) ≡ true → (a ≡ true) ⊎ (b ≡ true)
or_cases true b h = inl refl
or_cases false b h = inr h

or_left : (a b : Bool) → a ≡ true → (a || b) ≡ true
or_left true b h = refl
or_left false b h = absurd (false≢true h)

or_right : (a b : Bool) → b ≡ true → (a || b) ≡ true
or_right true b h = refl
or_right false b h = h

any_contains : (c : FrameCause) (xs : List FrameCause) → list_any (same_cause c) xs ≡ true → Contains xs c
any_contains c [] h = absurd (false≢true h)
any_contains c (d ∷ xs) h = ⊎_elim
    (λ (e : same_cause c d ≡ true). subst (λ k. Contains (d ∷ xs) k) (sym (same_is c d e)) (contains_head d xs))
    (λ (t : list_any (same_cause c) xs ≡ true). contains_tail c d xs (any_contains c xs t))
    (or_cases (same_cause c d) (list_any (same_cause c) xs) h)

contains_any : (c : FrameCause) (xs : List FrameCause) → Contains xs c → list_any (same_cause c) xs ≡ true
contains_any c [] h = absurd (contains_none c h)
contains_any c (d ∷ xs) h = ⊎_elim
    (λ (e : c ≡ d). or_left (same_cause c d) (list_any (same_cause c) xs) (subst (λ k. same_cause c k ≡ true) e (same_self c)))
    (λ (t : Contains xs c). or_right (same_cause c d) (list_any (same_cause c) xs) (contains_any c xs t))
    (contains_cons c d xs h)

pub found_are_met : FoundAreMet
unfolding meets_cause
found_are_met x c p f = (λ h. any_contains c (causes_at x p f) h, λ h. contains_any c (causes_at x p f) h)

-- no cause is found where none is met, and the other way round
none_any : (xs : List FrameCause) → ((c : FrameCause) → list_any (same_cause c) xs ≡ false) → xs ≡ []
none_any [] h = refl
none_any (c ∷ xs) h = absurd (true≢false (sym (or_left (same_cause c c) (list_any (same_cause c) xs) (same_self c)) ∙ h c))

pub passes_found : (x : FramedFunction) (p : ℕ) (f : Fact) → Passes (flow_of x) p f → causes_at x p f ≡ []
unfolding meets_cause
passes_found x p f h = none_any (causes_at x p f) h

pub found_passes : (x : FramedFunction) (p : ℕ) (f : Fact) → causes_at x p f ≡ [] → Passes (flow_of x) p f
unfolding meets_cause
found_passes x p f h c = ap (λ l. list_any (same_cause c) l) h

pub head_met : (x : FramedFunction) (p : ℕ) (f : Fact) (c : FrameCause) (more : List FrameCause) → causes_at x p f ≡ c ∷ more → meets_cause x c p f ≡ true
head_met x p f c more e = (found_are_met x c p f).1 (subst (λ l. Contains l c) (sym e) (contains_head c more))
