-- The frames of recorded activations, each with where its activation stands; and what of a list of activations lies outside one.
use Rattle.std.proofs.Common.{◌≡◌, ℕ, List, Option, Some, None, refl, ap, ◌∙◌, [], ◌∷◌, ◌++◌, length, arith, ◌⊎◌, inl, inr, Bool, true, false, cond, subst, ◌≤◌, sym}
use Rattle.std.specs.Prelude.{option_map, Result, Ok, Err}
use Rattle.std.proofs.lemmas.Option.{same_Some, none-some}
use Rattle.eh_codes.specs.declared.row.Entry.{Entry}
use Rattle.eh_index.specs.Places.{table_of}
use Rattle.eh_phase.specs.Frames.{codes_of, with_items, entry_contents, entry_contents_at, site_of, end_of_frames, frame_and_outer, frame_of}
use Rattle.eh_phase.specs.declared.walk.CoveringEntry.{CoveringEntry}
use Rattle.frame_graph.specs.FlowGraph.{FlowGraph}
use Rattle.frame_graph.specs.Sites.{entry_at, items_by, items_at}
use Rattle.eh_phase.specs.Phases.{Frame, Frames}
use Rattle.sim_relation.specs.sim_machines.Activations.{Activation, Caller, registers_of, ends_at, if_recipe, activation_frames, outer_frames, frames_at}
use Rattle.eh_codes.specs.Cut.{split_codes}
use Rattle.eh_bus.specs.Segment.{Segment}
use Rattle.eh_bytecode.specs.Recipe.{recipe}
use Rattle.eh_bytecode.specs.declared.recipe.Recipe.{Recipe}
use Rattle.eh_bytecode.specs.declared.recipe.RecipeFault.{RecipeFault}
use Rattle.frame_check.specs.Accepts.{Accepted}
use Rattle.thumb_core.specs.declared.ends.Cause.TheVariants.{NoHandler, LeavesCleanup}
use Rattle.sim_relation.specs.Holds.{IsWhole}
use Rattle.sim_relation.specs.Chain.{Chain}
use Rattle.sim_frames.specs.Landings.{AtCall, AtFirst, IsLocated, Rise, Fit}

pub covered_items : (s : FlowGraph) (site : ℕ) (c : CoveringEntry) → entry_contents_at s.image site ≡ Some c → items_at s site ≡ c.descs
unfolding entry_contents_at items_at
covered_items s site c e = go (entry_at s site) refl e
  where
    some : (x : Entry) (o : Option (List ℕ)) → option_map (with_items x (table_of s.image x)) o ≡ Some c → items_by s (Some x) ≡ c.descs
    some x None e = absurd (none-some c e)
    some x (Some codes) e = ap (λ (d : CoveringEntry). d.descs) (same_Some (with_items x (table_of s.image x) codes) c e)

    go : (o : Option Entry) → entry_at s site ≡ o → entry_contents s.image o ≡ Some c → items_by s (entry_at s site) ≡ c.descs
    go None is e = absurd (none-some c e)
    go (Some x) is e = ap (items_by s) is ∙ some x (codes_of x.body (table_of s.image x)) e

abbrev pub Sides : (Frame → Activation → Type 0) → List Frame → List Activation → Type 0
Sides P [] acts = Unit {0}
Sides P (f ∷ more) [] = ⊥
Sides P (f ∷ more) (a ∷ acts) = P f a × Sides P more acts

pub side_at : (P : Frame → Activation → Type 0) (inner : List Frame) (f : Frame) (outer : List Frame) (split_codes : List Activation) (a : Activation) (more : List Activation) → length inner ≡ length split_codes
    → Sides P (inner ++ f ∷ outer) (split_codes ++ a ∷ more) → P f a
side_at P [] f outer [] a more e h = h.0
side_at P [] f outer (c ∷ split_codes) a more e h = absurd (omega (arith, e))
side_at P (i ∷ inner) f outer [] a more e h = absurd (omega (arith, e))
side_at P (i ∷ inner) f outer (c ∷ split_codes) a more e h = side_at P inner f outer split_codes a more (let n : length inner ≡ length split_codes = omega (arith, e) in n) h.1

-- ---- the frames of a chain

module _ (x : Accepted) (segments : List Segment) (home : ℕ × ℕ) (place : Option ℕ) (site0 : ℕ) (r0 : List ℕ) (first : Activation) where
  abbrev There : Frame → Activation → Type 0
  There = IsLocated x segments site0 r0 first

  located_framed : (further : Frames) (site : ℕ) (r : List ℕ) (a : Activation) (acts : List Activation)
      → ((c : CoveringEntry) → entry_contents_at x.image site ≡ Some c → AtFirst site0 r0 first (frame_of site r c) a ⊎ AtCall x segments (frame_of site r c) a) → Sides There further.frames acts
      → Sides There (activation_frames further site r (entry_contents_at x.image site)).frames (a ∷ acts)
  located_framed further site r a acts here h = go (entry_contents_at x.image site) refl
    where
      by_recipe : (c : CoveringEntry) (o : Result Recipe RecipeFault) → entry_contents_at x.image site ≡ Some c → Sides There (frame_and_outer (frame_of site r c) (if_recipe o further)).frames (a ∷ acts)
      by_recipe c (Ok done) e = ((record { covered = c; covers = e; items = refl }, here c e), h)
      by_recipe c (Err why) e = ((record { covered = c; covers = e; items = refl }, here c e), tt)

      go : (o : Option CoveringEntry) → entry_contents_at x.image site ≡ o → Sides There (activation_frames further site r o).frames (a ∷ acts)
      go None e = tt
      go (Some c) e = by_recipe c (recipe (split_codes c.codes)) e

  located_outside : (c : Caller) (acts : List Activation) → IsWhole c → Chain x segments home c acts → Sides There (outer_frames x.image place c acts).frames acts
  located_outside c [] whole ch = go (ends_at place 0)
    where
      go : (b : Bool) → Sides There (cond b (end_of_frames LeavesCleanup) (end_of_frames NoHandler)).frames []
      go true = tt
      go false = tt
  located_outside c (a ∷ more) whole ch = go (ends_at place (length (a ∷ more))) (located_outside a.caller more ch.0.whole ch.1)
    where
      go : (b : Bool) → Sides There (outer_frames x.image place a.caller more).frames more
          → Sides There (cond b (end_of_frames LeavesCleanup) (activation_frames (outer_frames x.image place a.caller more) (site_of (registers_of c)) (registers_of c) (entry_contents_at x.image (site_of (registers_of c))))).frames (a ∷ more)
      go true h = tt
      go false h =
          located_framed (outer_frames x.image place a.caller more) (site_of (registers_of c)) (registers_of c) a more
          (λ v e. inr (record { inside = c; stands = ch.0; whole = whole; site = refl; registers = refl })) h

  pub located : (acts : List Activation) → IsWhole first.caller → Chain x segments home first.caller acts → Sides There (frames_at x.image place site0 r0 first acts).frames (first ∷ acts)
  located acts whole ch =
      located_framed (outer_frames x.image place first.caller acts) site0 r0 first acts (λ v e. inl (record { is = refl; site = refl; registers = refl })) (located_outside first.caller acts whole ch)

-- ---- what lies outside an activation

pub chain_after : (x : Accepted) (segments : List Segment) (home : ℕ × ℕ) (c : Caller) (split_codes : List Activation) (a : Activation) (more : List Activation) → Chain x segments home c (split_codes ++ a ∷ more)
    → IsWhole a.caller × Chain x segments home a.caller more
chain_after x segments home c [] a more h = (h.0.whole, h.1)
chain_after x segments home c (b ∷ split_codes) a more h = chain_after x segments home b.caller split_codes a more h.1

pub chain_from : (x : Accepted) (segments : List Segment) (home : ℕ × ℕ) (first : Activation) (outer split_codes : List Activation) (a : Activation) (more : List Activation) → first ∷ outer ≡ split_codes ++ a ∷ more
    → IsWhole first.caller → Chain x segments home first.caller outer → IsWhole a.caller × Chain x segments home a.caller more
chain_from x segments home first outer [] a more e whole h =
    let same : first ≡ a = cc in
    let rest : outer ≡ more = cc in
    (subst (λ (b : Activation). IsWhole b.caller) same whole, subst (λ (b : Activation). Chain x segments home b.caller more) same (subst (Chain x segments home first.caller) rest h))
chain_from x segments home first outer (b ∷ split_codes) a more e whole h =
    let rest : outer ≡ split_codes ++ a ∷ more = cc in
    chain_after x segments home first.caller split_codes a more (subst (Chain x segments home first.caller) rest h)

-- those inside recorded no sp above where it stands
abbrev pub AllUnder : ℕ → List Activation → Type 0
AllUnder sp [] = Unit {0}
AllUnder sp (a ∷ more) = (a.caller.sp ≤ sp) × AllUnder sp more

pub record Rest (top sp : ℕ) (split_codes : List Activation) (a : Activation) (more : List Activation) : Type 0 where
  pub under : AllUnder sp split_codes
  pub rise : Rise top sp (a ∷ more)

pub rest_at : (top low : ℕ) (inner : List Frame) (f : Frame) (outer : List Frame) (split_codes : List Activation) (a : Activation) (more : List Activation) → length inner ≡ length split_codes
    → Fit low (inner ++ f ∷ outer) (split_codes ++ a ∷ more) → Rise top low (split_codes ++ a ∷ more) → (low ≤ f.sp) × Rest top f.sp split_codes a more
rest_at top low [] f outer [] a more e fit rise = (omega (arith, fit.0), record { under = tt; rise = subst (λ (n : ℕ). Rise top n (a ∷ more)) (sym fit.0) rise })
rest_at top low [] f outer (c ∷ split_codes) a more e fit rise = absurd (omega (arith, e))
rest_at top low (i ∷ inner) f outer [] a more e fit rise = absurd (omega (arith, e))
rest_at top low (i ∷ inner) f outer (c ∷ split_codes) a more e fit rise =
    let w = rest_at top c.caller.sp inner f outer split_codes a more (let n : length inner ≡ length split_codes = omega (arith, e) in n) fit.2 rise.3 in
    let up = rise.1 in
    let l = w.0 in
    (omega (arith, up, l), record { under = (l, w.1.under); rise = w.1.rise })
