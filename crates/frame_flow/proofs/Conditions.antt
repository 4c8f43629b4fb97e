-- A cause is found at a place exactly where its condition holds.
use Rattle.std.proofs.Common.{ℕ, ◌≡◌, ◌==◌, ◌<◌, ◌&&◌, ◌⊎◌, inl, inr, nat_lt, not, cond, find, [], ◌++◌, Bool, true, false, Option, Some, None, Result, Ok, Err, sym, ◌∙◌, ap, subst, refl, ⊎_elim, arith}
use Rattle.std.proofs.lemmas.Bool.{false≢true, eqb-true, eq-eqb, and_parts, and_from, ltb-true}
use Rattle.std.proofs.lemmas.List.Elements.{Contains-append_left, Contains-append_right, Contains-append_cases}
use Rattle.std.specs.List.{Contains}
use Rattle.std.specs.Option.{option_map_or}
use Rattle.thumb_isa.specs.declared.instr.Instr.{Instr}
use Rattle.thumb_core.specs.declared.regs.TheConstants.{LR}
use Rattle.thumb_core.specs.Words.{numbers}
use Rattle.frame_facts.specs.eh_bytecode.declared.recipe.Recipe.{Recipe}
use Rattle.frame_facts.specs.declared.cause.FrameCause.{FrameCause}
use Rattle.frame_facts.specs.declared.cause.FrameCause.TheVariants.{Undecodable, BranchOut, IndirectBranch, CallNotFunction, SpWrite, JoinDepth, ReturnState, CallState, FramePointerLost, BadBytecode, BadDescriptor, PadDepth, ThrowInLeafScope, SplitEntry, GenericModel, TooLong}
use Rattle.frame_facts.specs.declared.facts.Source.{Source}
use Rattle.frame_facts.specs.declared.facts.Fact.{Fact}
use Rattle.frame_facts.specs.declared.saves.Prologue.{Prologue}
use Rattle.frame_facts.specs.Branches.{is_indirect, return_to, returns_well}
use Rattle.frame_facts.specs.After.{effect, check_return, effect_result, after_of}
use Rattle.frame_facts.specs.Agrees.{at_site, is_lost, fails_register, has_no_room, agreement_by, agreement}
use Rattle.frame_entries.specs.declared.unwinding.EntrySummary.{EntrySummary}
use Rattle.frame_entries.specs.declared.unwinding.EntrySummary.TheVariants.{Finds, Refused, BadBytecode as BadCodes, GenericModel as Generic}
use Rattle.frame_graph.specs.Places.{address_of}
use Rattle.frame_graph.specs.Edges.{is_undecodable, branches_out, calls_nothing, instruction_at}
use Rattle.frame_graph.specs.Sites.{site_at, unwinding_at, is_scoped, pads_out}
use Rattle.frame_dataflow.proofs.Work.{contains_none, contains_one, contains_head}
use Rattle.frame_flow.specs.Framed.{FramedFunction}
use Rattle.frame_flow.specs.Causes.{cause_if, causes_of_result, is_call, entry_causes, throws_in_leaf, site_causes, after_at, instruction_causes, causes_at}
use Rattle.frame_flow.specs.Flows.{transfer}
use Rattle.frame_flow.specs.Conditions.{Shows, AtSite, Disagrees, Holds, CausesAreConditions, TransferFollowsEdges}
use Rattle.frame_flow.proofs.Causing.{found_are_met}
use Rattle.frame_flow.proofs.Instance.{after_is, is_after, transfer_is, is_transfer}

-- ---- the parts of a list

shown_is : (test : Bool) (c d : FrameCause) → Contains (cause_if test c) d → (test ≡ true) × (d ≡ c)
shown_is true c d h = (refl, contains_one d c h)
shown_is false c d h = absurd (contains_none d h)

is_shown : (test : Bool) (c : FrameCause) → test ≡ true → Contains (cause_if test c) c
is_shown true c e = contains_head c []
is_shown false c e = absurd (false≢true e)

answered_is : {X : Type 0} (r : Result X FrameCause) (d : FrameCause) → Contains (causes_of_result r) d → r ≡ Err d
answered_is (Ok x) d h = absurd (contains_none d h)
answered_is (Err c) d h = ap Err (sym (contains_one d c h))

is_answered : {X : Type 0} (r : Result X FrameCause) (d : FrameCause) → r ≡ Err d → Contains (causes_of_result r) d
is_answered r d e = subst (λ (s : Result _ FrameCause). Contains (causes_of_result s) d) (sym e) (contains_head d [])

-- ---- which causes an effect and a recipe show

abbrev ByEffect : FrameCause → Type 0
ByEffect c = (c ≡ IndirectBranch) ⊎ ((c ≡ SpWrite) ⊎ (c ≡ ReturnState))

after_shows : (p : Prologue) (lowers : Bool) (at : ℕ) (i : Instr) (f : Fact) (c : FrameCause) → after_of p lowers at i f ≡ Err c → ByEffect c
after_shows p lowers at i f c h = first (is_indirect i f) h
  where
    well : (b : Bool) (g : Fact) → cond b (Ok g) (Err ReturnState) ≡ Err c → ByEffect c
    well true g h = absurd cc
    well false g h = inr (inr cc)

    back : (pc : Option Source) (g : Fact) → check_return pc g ≡ Err c → ByEffect c
    back None g h = absurd cc
    back (Some pc) g h = well (returns_well g pc) g h

    gone : (pc : Option Source) (o : Option Fact) → effect_result pc o ≡ Err c → ByEffect c
    gone pc None h = inr (inl cc)
    gone pc (Some g) h = back pc g h

    first : (b : Bool) → cond b (Err IndirectBranch) (effect_result (return_to p i f) (effect p lowers at i f)) ≡ Err c → ByEffect c
    first true h = inl cc
    first false h = gone (return_to p i f) (effect p lowers at i f) h

abbrev BySite : FrameCause → Type 0
BySite c = ((reg : ℕ) × (c ≡ CallState reg)) ⊎ ((reg : ℕ) × (c ≡ FramePointerLost reg))

agreed_shows : (p : Prologue) (r : Recipe) (call : Bool) (f : Fact) (c : FrameCause) → agreement p r call f ≡ Err c → BySite c
agreed_shows p r call f c h = let g = at_site call f in by (find (fails_register p r call g) numbers) (is_lost r g) r.base h
  where
    by : (o : Option ℕ) (lost : Bool) (base : ℕ) → agreement_by o lost base ≡ Err c → BySite c
    by (Some reg) lost base h = inl (reg, cc)
    by None true base h = inr (base, cc)
    by None false base h = absurd cc

-- ---- sites

room_is : (call : Bool) (f : Fact) → has_no_room call f LR ≡ true → (call ≡ true) × (f.depth < 4)
room_is call f h =
    let w = and_parts (call && (LR == 14)) (nat_lt f.depth 4) h in
    ((and_parts call (LR == 14) w.0).0, ltb-true f.depth 4 w.1)

is_room : (call : Bool) (f : Fact) → call ≡ true → f.depth < 4 → has_no_room call f LR ≡ true
is_room call f e l = and_from (call && (LR == 14)) (nat_lt f.depth 4) (and_from call (LR == 14) e refl) (less f.depth l)
  where
    less : (d : ℕ) → d < 4 → nat_lt d 4 ≡ true
    less d l = grind arith

unwound_is : (p : Prologue) (u : EntrySummary) (i : Instr) (f : Fact) (c : FrameCause) → Contains (entry_causes p u (is_call i) f) c → Disagrees p u i f c × BySite c
unwound_is p (Finds r) i f c h = let e = answered_is (agreement p r (is_call i) f) c h in (e, agreed_shows p r (is_call i) f c e)
unwound_is p Refused i f c h = let s = shown_is (has_no_room (is_call i) f LR) (CallState LR) c h in let r = room_is (is_call i) f s.0 in ((r.0, r.1, s.1), inl (LR, s.1))
unwound_is p BadCodes i f c h = let s = shown_is (has_no_room (is_call i) f LR) (CallState LR) c h in let r = room_is (is_call i) f s.0 in ((r.0, r.1, s.1), inl (LR, s.1))
unwound_is p Generic i f c h = let s = shown_is (has_no_room (is_call i) f LR) (CallState LR) c h in let r = room_is (is_call i) f s.0 in ((r.0, r.1, s.1), inl (LR, s.1))

roomless : (i : Instr) (f : Fact) (c : FrameCause) → is_call i ≡ true → f.depth < 4 → c ≡ CallState LR → Contains (cause_if (has_no_room (is_call i) f LR) (CallState LR)) c
roomless i f c e l is = subst (λ d. Contains (cause_if (has_no_room (is_call i) f LR) (CallState LR)) d) (sym is) (is_shown (has_no_room (is_call i) f LR) (CallState LR) (is_room (is_call i) f e l))

is_unwound : (p : Prologue) (u : EntrySummary) (i : Instr) (f : Fact) (c : FrameCause) → Disagrees p u i f c → Contains (entry_causes p u (is_call i) f) c
is_unwound p (Finds r) i f c h = is_answered (agreement p r (is_call i) f) c h
is_unwound p Refused i f c h = roomless i f c h.0 h.1 h.2
is_unwound p BadCodes i f c h = roomless i f c h.0 h.1 h.2
is_unwound p Generic i f c h = roomless i f c h.0 h.1 h.2

throws_is : (x : FramedFunction) (site : ℕ) (call : Bool) (f : Fact) → throws_in_leaf x.flow_graph site call f ≡ true → (call ≡ false) × (f.depth ≡ 0) × (is_scoped x.flow_graph site ≡ true)
throws_is x site call f h =
    let w = and_parts (not call && (f.depth == 0)) (is_scoped x.flow_graph site) h in
    let v = and_parts (not call) (f.depth == 0) w.0 in
    (turned call v.0, eqb-true f.depth 0 v.1, w.1)
  where
    turned : (b : Bool) → not b ≡ true → b ≡ false
    turned true h = absurd (false≢true h)
    turned false h = refl

is_throw : (x : FramedFunction) (site : ℕ) (call : Bool) (f : Fact) → call ≡ false → f.depth ≡ 0 → is_scoped x.flow_graph site ≡ true → throws_in_leaf x.flow_graph site call f ≡ true
is_throw x site call f e d s = and_from (not call && (f.depth == 0)) (is_scoped x.flow_graph site) (and_from (not call) (f.depth == 0) (ap not e) (eq-eqb f.depth 0 d)) s

-- ---- what is found

-- the place in a list that a cause comes from
pub data From (x : FramedFunction) (p : ℕ) (f : Fact) (c : FrameCause) : Type 0 where
  undecodable : is_undecodable x.flow_graph p ≡ true → c ≡ Undecodable → From x p f c
  branch : branches_out x.flow_graph p ≡ true → c ≡ BranchOut → From x p f c
  call : calls_nothing x.flow_graph p ≡ true → c ≡ CallNotFunction → From x p f c
  shows : (i : Instr) → instruction_at x.flow_graph p ≡ Some i → after_at x p f i ≡ Err c → From x p f c
  unwinds : (i : Instr) (site : ℕ) → instruction_at x.flow_graph p ≡ Some i → site_at x.flow_graph p ≡ Some site → Disagrees x.prologue (unwinding_at x.flow_graph site) i f c → BySite c → From x p f c
  lands : (i : Instr) (site : ℕ) → instruction_at x.flow_graph p ≡ Some i → site_at x.flow_graph p ≡ Some site → pads_out x.flow_graph site ≡ true → c ≡ PadDepth → From x p f c
  throws : (i : Instr) (site : ℕ) → instruction_at x.flow_graph p ≡ Some i → site_at x.flow_graph p ≡ Some site → throws_in_leaf x.flow_graph site (is_call i) f ≡ true → c ≡ ThrowInLeafScope → From x p f c

from_site : (x : FramedFunction) (p : ℕ) (f : Fact) (c : FrameCause) (i : Instr) (o : Option ℕ) → instruction_at x.flow_graph p ≡ Some i → site_at x.flow_graph p ≡ o → Contains (option_map_or (site_causes x (is_call i) f) o []) c → From x p f c
from_site x p f c i None e s h = absurd (contains_none c h)
from_site x p f c i (Some site) e s h =
    let one = entry_causes x.prologue (unwinding_at x.flow_graph site) (is_call i) f in
    let two = cause_if (pads_out x.flow_graph site) PadDepth in
    let three = cause_if (throws_in_leaf x.flow_graph site (is_call i) f) ThrowInLeafScope in
    ⊎_elim
    (λ (a : Contains one c). let w = unwound_is x.prologue (unwinding_at x.flow_graph site) i f c a in unwinds i site e s w.0 w.1)
    (λ (b : Contains (two ++ three) c). ⊎_elim
    (λ (a : Contains two c). let w = shown_is (pads_out x.flow_graph site) PadDepth c a in lands i site e s w.0 w.1)
    (λ (a : Contains three c). let w = shown_is (throws_in_leaf x.flow_graph site (is_call i) f) ThrowInLeafScope c a in throws i site e s w.0 w.1)
    (Contains-append_cases two three c b))
    (Contains-append_cases one (two ++ three) c h)

from_instruction : (x : FramedFunction) (p : ℕ) (f : Fact) (c : FrameCause) (o : Option Instr) → instruction_at x.flow_graph p ≡ o → Contains (option_map_or (instruction_causes x p f) o []) c → From x p f c
from_instruction x p f c None e h = absurd (contains_none c h)
from_instruction x p f c (Some i) e h = ⊎_elim
    (λ (a : Contains (causes_of_result (after_at x p f i)) c). shows i e (answered_is (after_at x p f i) c a))
    (λ (b : Contains (option_map_or (site_causes x (is_call i) f) (site_at x.flow_graph p) []) c). from_site x p f c i (site_at x.flow_graph p) e refl b)
    (Contains-append_cases (causes_of_result (after_at x p f i)) (option_map_or (site_causes x (is_call i) f) (site_at x.flow_graph p) []) c h)

from : (x : FramedFunction) (p : ℕ) (f : Fact) (c : FrameCause) → Contains (causes_at x p f) c → From x p f c
unfolding causes_at
from x p f c h =
    let one = cause_if (is_undecodable x.flow_graph p) Undecodable in
    let two = cause_if (branches_out x.flow_graph p) BranchOut in
    let three = cause_if (calls_nothing x.flow_graph p) CallNotFunction in
    let four = option_map_or (instruction_causes x p f) (instruction_at x.flow_graph p) [] in
    ⊎_elim
    (λ (a : Contains one c). let w = shown_is (is_undecodable x.flow_graph p) Undecodable c a in undecodable w.0 w.1)
    (λ (b : Contains (two ++ (three ++ four)) c). ⊎_elim
    (λ (a : Contains two c). let w = shown_is (branches_out x.flow_graph p) BranchOut c a in branch w.0 w.1)
    (λ (d : Contains (three ++ four) c). ⊎_elim
    (λ (a : Contains three c). let w = shown_is (calls_nothing x.flow_graph p) CallNotFunction c a in call w.0 w.1)
    (λ (a : Contains four c). from_instruction x p f c (instruction_at x.flow_graph p) refl a)
    (Contains-append_cases three four c d))
    (Contains-append_cases two (three ++ four) c b))
    (Contains-append_cases one (two ++ (three ++ four)) c h)

holds : (x : FramedFunction) (p : ℕ) (f : Fact) (c : FrameCause) → From x p f c → Holds x p f c
holds x p f c (undecodable h e) = subst (λ k. Holds x p f k) (sym e) h
holds x p f c (branch h e) = subst (λ k. Holds x p f k) (sym e) h
holds x p f c (call h e) = subst (λ k. Holds x p f k) (sym e) h
holds x p f c (shows i e h) = ⊎_elim
    (λ (is : c ≡ IndirectBranch). subst (λ k. Holds x p f k) (sym is) (i, e, h ∙ ap Err is))
    (λ (more : (c ≡ SpWrite) ⊎ (c ≡ ReturnState)). ⊎_elim
    (λ (is : c ≡ SpWrite). subst (λ k. Holds x p f k) (sym is) (i, e, h ∙ ap Err is))
    (λ (is : c ≡ ReturnState). subst (λ k. Holds x p f k) (sym is) (i, e, h ∙ ap Err is))
    more)
    (after_shows x.prologue (x.lowers p) (address_of x.flow_graph p) i f c h)
holds x p f c (unwinds i site e s h by) = ⊎_elim
    (λ (w : (reg : ℕ) × (c ≡ CallState reg)). subst (λ k. Holds x p f k) (sym w.1) (i, site, e, s, subst (λ k. Disagrees x.prologue (unwinding_at x.flow_graph site) i f k) w.1 h))
    (λ (w : (reg : ℕ) × (c ≡ FramePointerLost reg)). subst (λ k. Holds x p f k) (sym w.1) (i, site, e, s, subst (λ k. Disagrees x.prologue (unwinding_at x.flow_graph site) i f k) w.1 h))
    by
holds x p f c (lands i site e s h is) = subst (λ k. Holds x p f k) (sym is) (i, site, e, s, h)
holds x p f c (throws i site e s h is) = subst (λ k. Holds x p f k) (sym is) (i, site, e, s, throws_is x site (is_call i) f h)

-- ---- what holds is found

in_instruction : (x : FramedFunction) (p : ℕ) (f : Fact) (c : FrameCause) (i : Instr) → instruction_at x.flow_graph p ≡ Some i → Contains (instruction_causes x p f i) c → Contains (causes_at x p f) c
unfolding causes_at
in_instruction x p f c i e h =
    let one = cause_if (is_undecodable x.flow_graph p) Undecodable in
    let two = cause_if (branches_out x.flow_graph p) BranchOut in
    let three = cause_if (calls_nothing x.flow_graph p) CallNotFunction in
    let four = option_map_or (instruction_causes x p f) (instruction_at x.flow_graph p) [] in
    let there : Contains four c = subst (λ o. Contains (option_map_or (instruction_causes x p f) o []) c) (sym e) h in
    Contains-append_right one (two ++ (three ++ four)) c (Contains-append_right two (three ++ four) c (Contains-append_right three four c there))

by_effect : (x : FramedFunction) (p : ℕ) (f : Fact) (c : FrameCause) → Shows x p f c → Contains (causes_at x p f) c
by_effect x p f c h = in_instruction x p f c h.0 h.1
    (Contains-append_left (causes_of_result (after_at x p f h.0)) (option_map_or (site_causes x (is_call h.0) f) (site_at x.flow_graph p) []) c (is_answered (after_at x p f h.0) c h.2))

at_the_site : (x : FramedFunction) (p : ℕ) (f : Fact) (c : FrameCause) (i : Instr) (site : ℕ) → instruction_at x.flow_graph p ≡ Some i → site_at x.flow_graph p ≡ Some site → Contains (site_causes x (is_call i) f site) c → Contains (causes_at x p f) c
at_the_site x p f c i site e s h = in_instruction x p f c i e
    (Contains-append_right (causes_of_result (after_at x p f i)) (option_map_or (site_causes x (is_call i) f) (site_at x.flow_graph p) []) c
    (subst (λ o. Contains (option_map_or (site_causes x (is_call i) f) o []) c) (sym s) h))

by_site : (x : FramedFunction) (p : ℕ) (f : Fact) (c : FrameCause) → AtSite x p (λ i site. Disagrees x.prologue (unwinding_at x.flow_graph site) i f c) → Contains (causes_at x p f) c
by_site x p f c h =
    let i = h.0 in let site = h.1 in
    at_the_site x p f c i site h.2 h.3
    (Contains-append_left (entry_causes x.prologue (unwinding_at x.flow_graph site) (is_call i) f)
    (cause_if (pads_out x.flow_graph site) PadDepth ++ cause_if (throws_in_leaf x.flow_graph site (is_call i) f) ThrowInLeafScope) c
    (is_unwound x.prologue (unwinding_at x.flow_graph site) i f c h.4))

is_found : (x : FramedFunction) (p : ℕ) (f : Fact) (c : FrameCause) → Holds x p f c → Contains (causes_at x p f) c
unfolding causes_at
is_found x p f Undecodable h =
    Contains-append_left (cause_if (is_undecodable x.flow_graph p) Undecodable)
    (cause_if (branches_out x.flow_graph p) BranchOut ++ (cause_if (calls_nothing x.flow_graph p) CallNotFunction ++ option_map_or (instruction_causes x p f) (instruction_at x.flow_graph p) []))
    Undecodable (is_shown (is_undecodable x.flow_graph p) Undecodable h)
is_found x p f BranchOut h =
    let more = cause_if (calls_nothing x.flow_graph p) CallNotFunction ++ option_map_or (instruction_causes x p f) (instruction_at x.flow_graph p) [] in
    Contains-append_right (cause_if (is_undecodable x.flow_graph p) Undecodable) (cause_if (branches_out x.flow_graph p) BranchOut ++ more) BranchOut
    (Contains-append_left (cause_if (branches_out x.flow_graph p) BranchOut) more BranchOut (is_shown (branches_out x.flow_graph p) BranchOut h))
is_found x p f IndirectBranch h = by_effect x p f IndirectBranch h
is_found x p f CallNotFunction h =
    let four = option_map_or (instruction_causes x p f) (instruction_at x.flow_graph p) [] in
    let three = cause_if (calls_nothing x.flow_graph p) CallNotFunction in
    let two = cause_if (branches_out x.flow_graph p) BranchOut in
    Contains-append_right (cause_if (is_undecodable x.flow_graph p) Undecodable) (two ++ (three ++ four)) CallNotFunction
    (Contains-append_right two (three ++ four) CallNotFunction
    (Contains-append_left three four CallNotFunction (is_shown (calls_nothing x.flow_graph p) CallNotFunction h)))
is_found x p f SpWrite h = by_effect x p f SpWrite h
is_found x p f JoinDepth h = absurd h
is_found x p f ReturnState h = by_effect x p f ReturnState h
is_found x p f (CallState reg) h = by_site x p f (CallState reg) h
is_found x p f (FramePointerLost reg) h = by_site x p f (FramePointerLost reg) h
is_found x p f BadBytecode h = absurd h
is_found x p f BadDescriptor h = absurd h
is_found x p f PadDepth h =
    let i = h.0 in let site = h.1 in
    let one = entry_causes x.prologue (unwinding_at x.flow_graph site) (is_call i) f in
    let two = cause_if (pads_out x.flow_graph site) PadDepth in
    let three = cause_if (throws_in_leaf x.flow_graph site (is_call i) f) ThrowInLeafScope in
    at_the_site x p f PadDepth i site h.2 h.3 (Contains-append_right one (two ++ three) PadDepth (Contains-append_left two three PadDepth (is_shown (pads_out x.flow_graph site) PadDepth h.4)))
is_found x p f ThrowInLeafScope h =
    let i = h.0 in let site = h.1 in
    let one = entry_causes x.prologue (unwinding_at x.flow_graph site) (is_call i) f in
    let two = cause_if (pads_out x.flow_graph site) PadDepth in
    let three = cause_if (throws_in_leaf x.flow_graph site (is_call i) f) ThrowInLeafScope in
    at_the_site x p f ThrowInLeafScope i site h.2 h.3 (Contains-append_right one (two ++ three) ThrowInLeafScope (Contains-append_right two three ThrowInLeafScope
    (is_shown (throws_in_leaf x.flow_graph site (is_call i) f) ThrowInLeafScope (is_throw x site (is_call i) f h.4.0 h.4.1 h.4.2))))
is_found x p f SplitEntry h = absurd h
is_found x p f GenericModel h = absurd h
is_found x p f TooLong h = absurd h

pub causes_are_conditions : CausesAreConditions
causes_are_conditions x c p f =
    let m = found_are_met x c p f in
    (λ h. holds x p f c (from x p f c (m.0 h)), λ h. m.1 (is_found x p f c h))

pub transfer_follows_edges : TransferFollowsEdges
transfer_follows_edges x p f q g = (
  λ h.
      let e = transfer_is x p f q g h in
      let i = after_is x p f e.0 e.1 in
      (e.0, e.2.0, i, e.2.1, sym (ap (λ (y : ℕ × Fact). y.0) e.2.2), sym (ap (λ (y : ℕ × Fact). y.1) e.2.2)),
  λ h.
      let k = h.0 in let w = h.1 in let l = h.2 in
      let c = is_transfer x p f k w (is_after x p f k l.0 l.1 l.2) h.3 in
      subst (λ (y : ℕ). Contains (transfer x p f) (y, g)) (sym h.4) (subst (λ (y : Fact). Contains (transfer x p f) (w.to, y)) (sym h.5) c),
)
