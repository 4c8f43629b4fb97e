-- What phase 2 enters over the frames of recorded activations stands in one of them: those inside it are cut, and their slots lie below its sp.
use Rattle.std.proofs.Common.{◌≡◌, ℕ, ◌==◌, Bool, true, false, cond, List, [], ◌∷◌, ◌++◌, Option, Some, None, refl, sym, ap, subst, ◌∙◌, append_assoc, ◌⊎◌, inl, inr, suc, ◌≤◌, drop, arith, length}
use Rattle.std.specs.Prelude.{Result, Ok, Err, is_some, slice_index}
use Rattle.std.proofs.lemmas.Bool.{eqb-true, and_parts}
use Rattle.std.proofs.lemmas.Option.{same_Some, none-some}
use Rattle.std.proofs.lemmas.List.Elements.{All-head, All-tail}
use Rattle.eh_desc.specs.declared.descriptor.Desc.{Desc}
use Rattle.eh_desc.specs.declared.descriptor.DescFault.{DescFault}
use Rattle.eh_desc.specs.declared.descriptor.DescKind.{DescKind}
use Rattle.eh_phase.specs.Firsts.{first_some, or_else}
use Rattle.eh_phase.specs.Phases.{Frame, descriptor_places, from_descriptor, stands_at, from_address, is_goal, vrs_of, enter_spec, enter_by_kind, enter_item, enter_at_place, places, Frames}
use Rattle.eh_phase.specs.Verdict.{in_scope}
use Rattle.eh_phase.specs.declared.phase2.Entered.{Entered}
use Rattle.eh_phase.specs.declared.phase2.Goal.{Goal}
use Rattle.frame_entries.specs.Scopes.{pad_of}
use Rattle.eh_phase.specs.Cleanups.{is_reached_in}
use Rattle.eh_phase.specs.Laws.{IsInOrder}
use Rattle.eh_bus.specs.Lists.{Has}
use Rattle.eh_phase.proofs.Steps.{parted}
use Rattle.sim_relation.specs.sim_machines.Activations.{Activation, slots_of, if_recipe, activation_frames, Caller, registers_of, ends_at, outer_frames, frames_at}
use Rattle.sim_relation.specs.sim_machines.ActivationMachine.{is_entered, passed_frame_count}
use Rattle.thumb_core.specs.declared.regs.TheConstants.{SP}
use Rattle.eh_codes.specs.Cut.{split_codes}
use Rattle.eh_bytecode.specs.Recipe.{recipe}
use Rattle.eh_bytecode.specs.declared.recipe.Recipe.{Recipe}
use Rattle.eh_bytecode.specs.declared.recipe.RecipeFault.{RecipeFault}
use Rattle.eh_phase.specs.Frames.{frame_and_outer, frame_of, entry_contents_at, site_of, end_of_frames}
use Rattle.eh_phase.specs.declared.walk.CoveringEntry.{CoveringEntry}
use Rattle.eh_bus.specs.Segment.{Segment}
use Rattle.thumb_core.specs.declared.ends.Cause.TheVariants.{NoHandler, LeavesCleanup}
use Rattle.frame_check.specs.Accepts.{Accepted}
use Rattle.eh_desc.specs.declared.descriptor.DescKind.TheVariants as kind
use Rattle.eh_phase.specs.declared.phase2.Entered.TheVariants as enters
use Rattle.sim_frames.specs.Landings.{OfFrame, ReachesOn, Fit, Rise, LandsIn}
use Rattle.sim_frames.proofs.GoesHere.{here_reach, passed_reach}
use Rattle.sim_relation.specs.Holds.{IsWhole}
use Rattle.sim_relation.specs.Chain.{Chain}
use Rattle.sim_frames.proofs.Outwards.{at_sp}
use Rattle.sim_relation.proofs.Goes.{chain_top}

module _ (g : Goal) (f : Frame) where
  of_item : (before : List (Result Desc DescFault)) (i : Result Desc DescFault) (after : List (Result Desc DescFault)) (e : Entered) → f.items ≡ before ++ i ∷ after → enter_item g f i ≡ Some e → OfFrame g f e
  of_item before (Err fault) after e at is = subst (OfFrame g f) (same_Some _ e is) tt
  of_item before (Ok d) after e at is = go (in_scope f.site d) refl is
    where
      by_spec : (pad : Option ℕ) → in_scope f.site d ≡ true → pad_of d.kind ≡ pad → f.sp ≡ g.sp → OfFrame g f (enter_spec f pad)
      by_spec None s k h = tt
      by_spec (Some pad) s k h = (refl, record { before = before; desc = d; after = after; items = at; scope = s; kind = k }, h)

      if_goal : (b : Bool) (v : Entered) → is_goal g f d.at ≡ b → (f.sp ≡ g.sp → OfFrame g f v) → cond b (Some v) None ≡ Some e → OfFrame g f e
      if_goal true v t h is = subst (OfFrame g f) (same_Some v e is) (h (eqb-true f.sp g.sp (and_parts (f.sp == g.sp) (d.at == g.desc) t).0))
      if_goal false v t h is = absurd (none-some e is)

      by_kind : (k : DescKind) → d.kind ≡ k → in_scope f.site d ≡ true → enter_by_kind g f d k ≡ Some e → OfFrame g f e
      by_kind (kind.Cleanup pad) k s is = subst (OfFrame g f) (same_Some (enters.Cleanup (vrs_of f) pad d.next f.site) e is)
          (refl, refl, record { before = before; desc = d; after = after; items = at; scope = s; kind = k; later = refl })
      by_kind (kind.Catch pad reference type) k s is = if_goal (is_goal g f d.at) (enters.Catch (vrs_of f) pad) refl (λ h. (refl, record { before = before; desc = d; after = after; items = at; scope = s; kind = ap pad_of k }, h)) is
      by_kind (kind.Spec types count pad) k s is = if_goal (is_goal g f d.at) (enter_spec f pad) refl (by_spec pad s (ap pad_of k)) is

      go : (b : Bool) → in_scope f.site d ≡ b → cond b (enter_by_kind g f d d.kind) None ≡ Some e → OfFrame g f e
      go true s is = by_kind d.kind refl s is
      go false s is = absurd (none-some e is)

  pub of_items : (before items : List (Result Desc DescFault)) (e : Entered) → f.items ≡ before ++ items → first_some (enter_item g f) items ≡ Some e → OfFrame g f e
  unfolding first_some
  of_items before [] e at is = absurd (none-some e is)
  of_items before (i ∷ more) e at is = go (enter_item g f i) refl is (λ w. of_items (before ++ i ∷ []) more e (at ∙ sym (append_assoc before (i ∷ []) more)) w)
    where
      go : (o : Option Entered) → enter_item g f i ≡ o → or_else o (first_some (enter_item g f) more) ≡ Some e → (first_some (enter_item g f) more ≡ Some e → OfFrame g f e) → OfFrame g f e
      go (Some x) k is later = of_item before i more e at (k ∙ is)
      go None k is later = later is

  -- those from an address on end the list
  pub record Ends (items : List (Result Desc DescFault)) : Type 0 where
    pub before : List (Result Desc DescFault)
    pub is : f.items ≡ before ++ items

  after_ends : (at : ℕ) (before items : List (Result Desc DescFault)) → f.items ≡ before ++ items → Ends (from_descriptor at items)
  unfolding from_descriptor
  after_ends at before [] e = record { before = before; is = e }
  after_ends at before (i ∷ more) e = go (stands_at at i) (after_ends at (before ++ i ∷ []) more (e ∙ sym (append_assoc before (i ∷ []) more)))
    where
      go : (b : Bool) → Ends (from_descriptor at more) → Ends (cond b (i ∷ more) (from_descriptor at more))
      go true later = record { before = before; is = e }
      go false later = later

  from_ends : (at : ℕ) → Ends (from_address at f.items)
  from_ends at = go (at == 0)
    where
      go : (b : Bool) → Ends (cond b f.items (from_descriptor at f.items))
      go true = record { before = []; is = refl }
      go false = after_ends at [] f.items refl

  own : (from : ℕ) (e : Entered) → first_some (enter_item g f) (from_address from f.items) ≡ Some e → OfFrame g f e
  own from e is = let s = from_ends from in of_items s.before (from_address from f.items) e s.is is

  -- a frame's own places
  placed_same : (items : List (Result Desc DescFault)) → first_some (enter_at_place g) (descriptor_places f items) ≡ first_some (enter_item g f) items
  unfolding first_some
  placed_same [] = refl
  placed_same (i ∷ more) = ap (or_else (enter_item g f i)) (placed_same more)

head_reach : (g : Goal) (from : ℕ) (f : Frame) (more : List Frame) (e : Entered) → IsInOrder f → first_some (enter_item g f) (from_address from f.items) ≡ Some e → is_reached_in g (places from (f ∷ more)) ≡ true → ReachesOn g f more e
head_reach g from f more (enters.Cleanup vrs pad next site) o e t = here_reach g from f more vrs pad next site o e t
head_reach g from f more (enters.Catch vrs pad) o e t = tt
head_reach g from f more (enters.Spec vrs pad) o e t = tt
head_reach g from f more enters.Unexpected o e t = tt
head_reach g from f more (enters.Terminate why) o e t = tt

pub has_either : (xs ys : List ℕ) (k : ℕ) → Has (xs ++ ys) k → Has xs k ⊎ Has ys k
has_either [] ys k h = inr h
has_either (x ∷ xs) ys k (inl e) = inl (inl e)
has_either (x ∷ xs) ys k (inr h) = elim (has_either xs ys k h) [
  | inl l ↦ inl (inr l)
  | inr r ↦ inr r
]

pub lands_in : (g : Goal) (from top low : ℕ) (fs : List Frame) (acts : List Activation) (e : Entered) → low ≤ top → Fit low fs acts → Rise top low acts → first_some (enter_at_place g) (places from fs) ≡ Some e
    → LandsIn g from top low fs acts e
unfolding passed_frame_count first_some places
lands_in g from top low [] acts e within fit rise is = absurd (none-some e is)
lands_in g from top low (f ∷ more) [] e within fit rise is = absurd fit
lands_in g from top low (f ∷ more) (a ∷ acts) e within fit rise is =
    go (first_some (enter_item g f) (from_address from f.items)) refl (sym (parted g from f more) ∙ is) (λ w. lands_in g 0 top a.caller.sp more acts e rise.2 fit.2 rise.3 w)
  where
    here : (o : Option Entered) → first_some (enter_item g f) (from_address from f.items) ≡ o → is_entered g from f ≡ is_some o
    here o e = ap is_some (placed_same g f (from_address from f.items) ∙ e)

    go : (o : Option Entered) → first_some (enter_item g f) (from_address from f.items) ≡ o → or_else o (first_some (enter_at_place g) (places 0 more)) ≡ Some e
        → (first_some (enter_at_place g) (places 0 more) ≡ Some e → LandsIn g 0 top a.caller.sp more acts e) → LandsIn g from top low (f ∷ more) (a ∷ acts) e
    go (Some y) own_is is later = record {
      cut = [];
      first = a;
      more = acts;
      all = refl;
      passed = ap (λ (b : Bool). drop (cond b 0 (suc (passed_frame_count g 0 more))) (a ∷ acts)) (here (Some y) own_is);
      inner = [];
      frame = f;
      outer = more;
      frames = refl;
      beside = refl;
      reach = λ o t. head_reach g from f more e (All-head IsInOrder f more o) (own_is ∙ is) t;
      of = own g f from e (own_is ∙ is);
      in_first = λ none. own_is ∙ is;
      fit = (refl, fit.1 ∙ sym fit.0, fit.2);
      high = (let s = fit.0 in omega (arith, s));
      under = (let s = fit.0 in omega (arith, s, within));
      below = λ s h. absurd h;
    }
    go None own_is is later =
        let l = later is in
        let up = rise.1 in
        let high_there = l.high in
        record {
          cut = a ∷ l.cut;
          first = l.first;
          more = l.more;
          all = ap (λ (xs : List Activation). a ∷ xs) l.all;
          passed = ap (λ (b : Bool). drop (cond b 0 (suc (passed_frame_count g 0 more))) (a ∷ acts)) (here None own_is) ∙ l.passed;
          inner = f ∷ l.inner;
          frame = l.frame;
          outer = l.outer;
          frames = ap (λ (xs : List Frame). f ∷ xs) l.frames;
          beside = ap (λ (n : ℕ). suc n) l.beside;
          reach = λ o t. l.reach (All-tail IsInOrder f more o) (passed_reach g from f more own_is t);
          of = l.of;
          in_first = λ none. absurd (omega (arith, none));
          fit = l.fit;
          high = omega (arith, up, high_there);
          under = l.under;
          below = λ s h. elim (has_either a.slots (slots_of l.cut) s h) [
            | inl own_slot ↦ (let w = rise.0 s own_slot in let x = w.0 in let y = w.1 in (omega (arith, x), omega (arith, y, high_there)))
            | inr inner_slot ↦ (let w = l.below s inner_slot in let x = w.0 in let y = w.1 in (omega (arith, x, up), omega (arith, y)))
          ];
        }

-- ---- the frames of a chain

fit_framed : (further : Frames) (site : ℕ) (r : List ℕ) (o : Option CoveringEntry) (sp : ℕ) (a : Activation) (acts : List Activation) → slice_index r SP ≡ sp → Fit a.caller.sp further.frames acts
    → Fit sp (activation_frames further site r o).frames (a ∷ acts)
fit_framed further site r None sp a acts e h = tt
fit_framed further site r (Some c) sp a acts e h = go (recipe (split_codes c.codes))
  where
    go : (o : Result Recipe RecipeFault) → Fit sp (frame_and_outer (frame_of site r c) (if_recipe o further)).frames (a ∷ acts)
    go (Ok done) = (e, e, h)
    go (Err why) = (e, e, tt)

pub fit_outside : (x : Accepted) (segments : List Segment) (home : ℕ × ℕ) (place : Option ℕ) (c : Caller) (acts : List Activation) → IsWhole c → Chain x segments home c acts
    → Fit c.sp (outer_frames x.image place c acts).frames acts
fit_outside x segments home place c [] whole ch = go (ends_at place 0)
  where
    go : (b : Bool) → Fit c.sp (cond b (end_of_frames LeavesCleanup) (end_of_frames NoHandler)).frames []
    go true = tt
    go false = tt
fit_outside x segments home place c (a ∷ more) whole ch = go (ends_at place (length (a ∷ more))) (fit_outside x segments home place a.caller more ch.0.whole ch.1)
  where
    go : (b : Bool) → Fit a.caller.sp (outer_frames x.image place a.caller more).frames more
        → Fit c.sp (cond b (end_of_frames LeavesCleanup) (activation_frames (outer_frames x.image place a.caller more) (site_of (registers_of c)) (registers_of c) (entry_contents_at x.image (site_of (registers_of c))))).frames (a ∷ more)
    go true h = tt
    go false h =
        fit_framed (outer_frames x.image place a.caller more) (site_of (registers_of c)) (registers_of c) (entry_contents_at x.image (site_of (registers_of c))) c.sp a more (at_sp c whole.count) h

pub fit_frames : (x : Accepted) (segments : List Segment) (home : ℕ × ℕ) (place : Option ℕ) (site : ℕ) (r : List ℕ) (a : Activation) (acts : List Activation) → IsWhole a.caller → Chain x segments home a.caller acts
    → Fit (slice_index r SP) (frames_at x.image place site r a acts).frames (a ∷ acts)
fit_frames x segments home place site r a acts whole ch =
    fit_framed (outer_frames x.image place a.caller acts) site r (entry_contents_at x.image site) (slice_index r SP) a acts refl (fit_outside x segments home place a.caller acts whole ch)

-- each frame's sp is at most the top
pub fit_top : (top sp : ℕ) (inner : List Frame) (f : Frame) (outer : List Frame) (acts : List Activation) → sp ≤ top → Fit sp (inner ++ f ∷ outer) acts → Rise top sp acts → f.sp ≤ top
fit_top top sp inner f outer [] h fit rise = absurd (none inner fit)
  where
    none : (inner : List Frame) → Fit sp (inner ++ f ∷ outer) [] → ⊥
    none [] e = e
    none (x ∷ inner) e = e
fit_top top sp [] f outer (a ∷ acts) h fit rise = let e = fit.0 in omega (arith, e, h)
fit_top top sp (x ∷ inner) f outer (a ∷ acts) h fit rise = fit_top top a.caller.sp inner f outer acts rise.2 fit.2 rise.3

pub rise_outside : (x : Accepted) (segments : List Segment) (home : ℕ × ℕ) (c : Caller) (acts : List Activation) → Chain x segments home c acts → Rise home.1 c.sp acts
rise_outside x segments home c [] ch = tt
rise_outside x segments home c (a ∷ more) ch =
    (ch.0.slots, (let room = ch.0.room in omega (arith, room)), chain_top x segments home a.caller more ch.1, rise_outside x segments home a.caller more ch.1)
