-- Over the frames of recorded activations: their descriptors stand in order, a barrier that a search finds is within reach, and one within reach
-- is named by words.
use Rattle.std.proofs.Common.{◌≡◌, ℕ, ◌<◌, ◌≤◌, ◌^◌, ◌==◌, ◌&&◌, ◌||◌, Bool, true, false, cond, List, [], ◌∷◌, ◌++◌, length, Option, Some, None, Result, Ok, Err, refl, sym, ◌∙◌, ap, subst, arith}
use Rattle.std.specs.Prelude.{All}
use Rattle.std.proofs.lemmas.Bool.{and_parts, eqb-true}
use Rattle.std.proofs.lemmas.List.Elements.{All-head, All-cons, All-nil}
use Rattle.elf_image.specs.Image.{Image, IsSound}
use Rattle.eh_codes.specs.Cut.{split_codes}
use Rattle.eh_bytecode.specs.Recipe.{recipe}
use Rattle.eh_bytecode.specs.declared.recipe.Recipe.{Recipe}
use Rattle.eh_bytecode.specs.declared.recipe.RecipeFault.{RecipeFault}
use Rattle.eh_desc.specs.declared.descriptor.Desc.{Desc}
use Rattle.eh_desc.specs.declared.descriptor.DescFault.{DescFault}
use Rattle.eh_phase.specs.declared.phase1.Barrier.{Barrier}
use Rattle.eh_phase.specs.declared.phase1.Found.TheVariants as found
use Rattle.eh_phase.specs.declared.phase2.Goal.{Goal}
use Rattle.eh_phase.specs.declared.verdict.Verdict.{Verdict}
use Rattle.eh_phase.specs.declared.walk.CoveringEntry.{CoveringEntry}
use Rattle.eh_phase.specs.Cleanups.{is_reached, is_reached_in, is_barrier_item, can_stop}
use Rattle.eh_phase.specs.Firsts.{first_some}
use Rattle.eh_phase.specs.Frames.{Stack, entry_contents_at, site_of, end_of_frames, frame_and_outer, frame_of, frames_in, frames_of_entry}
use Rattle.eh_phase.specs.Laws.{IsInOrder, goal_of}
use Rattle.eh_phase.specs.Phases.{Frame, Frames, Place, phase1, descriptor_places, places, from_descriptor, from_address, stands_at, is_goal}
use Rattle.eh_phase.specs.Verdict.{Meeting, verdict_of, in_scope}
use Rattle.eh_phase.proofs.Due.{reached_none}
use Rattle.eh_phase.proofs.Reached.{up_to_barrier, whole_reached}
use Rattle.eh_phase.proofs.Steps.{said_here, silent_here}
use Rattle.eh_phase.proofs.Whole.{all_in_order}
use Rattle.thumb_core.specs.declared.ends.Cause.{Cause}
use Rattle.thumb_core.specs.declared.ends.Cause.TheVariants.{NoHandler, LeavesCleanup}
use Rattle.sim_machines.specs.Activations.{Activation, Caller, registers_of, ends_at, if_recipe, activation_frames, outer_frames, frames_at}
use Rattle.sim_frames.specs.Landings.{Fit, Rise}
use Rattle.sim_frames.proofs.GoesHere.{places-from}
use Rattle.sim_frames.proofs.ReachBySp.{reached_read, reached_unread}
use Rattle.sim_runs.proofs.sim_throws.Landable.{AreSmall, AllGood}

-- ---- descriptors in order

no_stack : Stack
no_stack = record { segments = []; end = 0 }

one_in_order : (image : Image) (site : ℕ) (r : List ℕ) (c : CoveringEntry) → IsSound image → entry_contents_at image site ≡ Some c → IsInOrder (frame_of site r c)
unfolding frames_in
one_in_order image site r c sound e =
    let further : List ℕ → Frames = λ new. frames_in 0 image no_stack None false (site_of new) new in
    All-head IsInOrder (frame_of site r c) _ (subst (λ (o : Option CoveringEntry). All IsInOrder (frames_of_entry further no_stack None true site r o).frames) e (all_in_order 1 image no_stack None true site r sound))

framed_in_order : (image : Image) (further : Frames) (site : ℕ) (r : List ℕ) → IsSound image → All IsInOrder further.frames → All IsInOrder (activation_frames further site r (entry_contents_at image site)).frames
framed_in_order image further site r sound h = go (entry_contents_at image site) refl
  where
    by_recipe : (c : CoveringEntry) (d : Result Recipe RecipeFault) → IsInOrder (frame_of site r c) → All IsInOrder (frame_and_outer (frame_of site r c) (if_recipe d further)).frames
    by_recipe c (Ok done) one = All-cons IsInOrder (frame_of site r c) further.frames one h
    by_recipe c (Err why) one = All-cons IsInOrder (frame_of site r c) [] one (All-nil IsInOrder)

    go : (o : Option CoveringEntry) → entry_contents_at image site ≡ o → All IsInOrder (activation_frames further site r o).frames
    go None e = All-nil IsInOrder
    go (Some c) e = by_recipe c (recipe (split_codes c.codes)) (one_in_order image site r c sound e)

outside_in_order : (image : Image) (c : Caller) (acts : List Activation) → IsSound image → All IsInOrder (outer_frames image None c acts).frames
outside_in_order image c [] sound = All-nil IsInOrder
outside_in_order image c (a ∷ more) sound = framed_in_order image (outer_frames image None a.caller more) (site_of (registers_of c)) (registers_of c) sound (outside_in_order image a.caller more sound)

pub in_order : (image : Image) (site : ℕ) (r : List ℕ) (a : Activation) (outer : List Activation) → IsSound image → All IsInOrder (frames_at image None site r a outer).frames
in_order image site r a outer sound = framed_in_order image (outer_frames image None a.caller outer) site r sound (outside_in_order image a.caller outer sound)

-- ---- what is found under the limit of a cleanup is found without it

none_found : (m : Meeting) (why : Cause) (b : Barrier) → phase1 m (end_of_frames why) ≡ found.Barrier b → ⊥
unfolding phase1 first_some
none_found m why b e = absurd cc

found_framed : (m : Meeting) (f g : Frames) (site : ℕ) (r : List ℕ) (b : Barrier) → (phase1 m f ≡ found.Barrier b → phase1 m g ≡ found.Barrier b) → (o : Option CoveringEntry)
    → phase1 m (activation_frames f site r o) ≡ found.Barrier b → phase1 m (activation_frames g site r o) ≡ found.Barrier b
found_framed m f g site r b further None e = e
found_framed m f g site r b further (Some c) e = by_recipe (recipe (split_codes c.codes)) e
  where
    by_verdict : (o : Option Verdict) → verdict_of m site c.descs ≡ o → phase1 m (frame_and_outer (frame_of site r c) f) ≡ found.Barrier b → phase1 m (frame_and_outer (frame_of site r c) g) ≡ found.Barrier b
    by_verdict (Some v) is h = said_here m (frame_of site r c) g v is ∙ sym (said_here m (frame_of site r c) f v is) ∙ h
    by_verdict None is h = silent_here m (frame_of site r c) g is ∙ further (sym (silent_here m (frame_of site r c) f is) ∙ h)

    by_recipe : (d : Result Recipe RecipeFault) → phase1 m (frame_and_outer (frame_of site r c) (if_recipe d f)) ≡ found.Barrier b → phase1 m (frame_and_outer (frame_of site r c) (if_recipe d g)) ≡ found.Barrier b
    by_recipe (Ok done) h = by_verdict (verdict_of m site c.descs) refl h
    by_recipe (Err why) h = h

found_outside : (m : Meeting) (image : Image) (place : Option ℕ) (c : Caller) (acts : List Activation) (b : Barrier) → phase1 m (outer_frames image place c acts) ≡ found.Barrier b
    → phase1 m (outer_frames image None c acts) ≡ found.Barrier b
found_outside m image place c [] b e = go (ends_at place 0) e
  where
    go : (t : Bool) → phase1 m (cond t (end_of_frames LeavesCleanup) (end_of_frames NoHandler)) ≡ found.Barrier b → phase1 m (end_of_frames NoHandler) ≡ found.Barrier b
    go true h = absurd (none_found m LeavesCleanup b h)
    go false h = h
found_outside m image place c (a ∷ more) b e = go (ends_at place (length (a ∷ more))) e (found_outside m image place a.caller more b)
  where
    go : (t : Bool)
        → phase1 m (cond t (end_of_frames LeavesCleanup) (activation_frames (outer_frames image place a.caller more) (site_of (registers_of c)) (registers_of c) (entry_contents_at image (site_of (registers_of c))))) ≡ found.Barrier b → (phase1 m (outer_frames image place a.caller more) ≡ found.Barrier b → phase1 m (outer_frames image None a.caller more) ≡ found.Barrier b)
        → phase1 m (activation_frames (outer_frames image None a.caller more) (site_of (registers_of c)) (registers_of c) (entry_contents_at image (site_of (registers_of c)))) ≡ found.Barrier b
    go true h further = absurd (none_found m LeavesCleanup b h)
    go false h further =
        found_framed m (outer_frames image place a.caller more) (outer_frames image None a.caller more) (site_of (registers_of c)) (registers_of c) b further (entry_contents_at image (site_of (registers_of c))) h

-- so it is within reach
pub found_reached : (m : Meeting) (image : Image) (place : Option ℕ) (site : ℕ) (r : List ℕ) (a : Activation) (outer : List Activation) (b : Barrier) → phase1 m (frames_at image place site r a outer) ≡ found.Barrier b
    → is_reached (goal_of b) 0 (frames_at image None site r a outer).frames ≡ true
found_reached m image place site r a outer b e =
    let fs = frames_at image None site r a outer in
    let whole = found_framed m (outer_frames image place a.caller outer) (outer_frames image None a.caller outer) site r b (found_outside m image place a.caller outer b) (entry_contents_at image site) e in
    whole_reached m b fs (up_to_barrier m fs.last b fs.frames whole)

-- ---- a goal within reach

small_after : (at : ℕ) (items : List (Result Desc DescFault)) → AreSmall items → AreSmall (from_descriptor at items)
unfolding from_descriptor
small_after at [] h = tt
small_after at (Ok d ∷ more) h = go (stands_at at (Ok d)) (small_after at more h.2)
  where
    go : (b : Bool) → AreSmall (from_descriptor at more) → AreSmall (cond b (Ok d ∷ more) (from_descriptor at more))
    go true w = h
    go false w = w
small_after at (Err fault ∷ more) h = h

small_from : (at : ℕ) (items : List (Result Desc DescFault)) → AreSmall items → AreSmall (from_address at items)
small_from at items h = go (at == 0)
  where
    go : (b : Bool) → AreSmall (cond b items (from_descriptor at items))
    go true = h
    go false = small_after at items h

abbrev pub IsSmall : Goal → ℕ → Type 0
IsSmall g top = (g.sp ≤ top) × (g.desc < 2 ^ 32)

items_goal : (g : Goal) (f : Frame) (top : ℕ) (qs : List Place) → f.sp ≤ top → (is_reached_in g qs ≡ true → IsSmall g top) → (xs : List (Result Desc DescFault)) → AreSmall xs
    → is_reached_in g (descriptor_places f xs ++ qs) ≡ true → IsSmall g top
items_goal g f top qs low further [] h e = further e
items_goal g f top qs low further (Err fault ∷ xs) h e = absurd (let w = reached_unread g f fault (descriptor_places f xs ++ qs) in cc)
items_goal g f top qs low further (Ok d ∷ xs) h e = go (is_barrier_item g f (Ok d)) refl (sym (reached_read g f d (descriptor_places f xs ++ qs)) ∙ e) (items_goal g f top qs low further xs h.2)
  where
    go : (b : Bool) → is_barrier_item g f (Ok d) ≡ b → (b || is_reached_in g (descriptor_places f xs ++ qs)) ≡ true → (is_reached_in g (descriptor_places f xs ++ qs) ≡ true → IsSmall g top) → IsSmall g top
    go true is w later =
        let scoped = and_parts (in_scope f.site d) (can_stop d.kind && is_goal g f d.at) is in
        let stops = and_parts (can_stop d.kind) (is_goal g f d.at) scoped.1 in
        let goal = and_parts (f.sp == g.sp) (d.at == g.desc) stops.1 in
        let sp : f.sp ≡ g.sp = eqb-true f.sp g.sp goal.0 in
        let desc : d.at ≡ g.desc = eqb-true d.at g.desc goal.1 in
        let small = h.0 in
        (omega (arith, low, sp), omega (arith, small, desc))
    go false is w later = later w

pub goal_small : (g : Goal) (from top sp : ℕ) (fs : List Frame) (acts : List Activation) → sp ≤ top → Fit sp fs acts → Rise top sp acts → AllGood fs → is_reached g from fs ≡ true → IsSmall g top
unfolding places
goal_small g from top sp [] acts low fit rise good e = absurd (let w = reached_none g in cc)
goal_small g from top sp (f ∷ more) [] low fit rise good e = absurd fit
goal_small g from top sp (f ∷ more) (a ∷ acts) low fit rise good e =
    let at = fit.0 in
    items_goal g f top (places 0 more) (omega (arith, at, low)) (λ w. goal_small g 0 top a.caller.sp more acts rise.2 fit.2 rise.3 good.1 w) (from_address from f.items) (small_from from f.items good.0.0)
    (sym (ap (is_reached_in g) (places-from from f more)) ∙ e)
