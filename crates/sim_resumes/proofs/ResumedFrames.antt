-- Of the frames from the kept site of a cleanup the first is its activation's, at the kept site, and all others are of callers, at their calls.
use Rattle.std.proofs.Common.{◌≡◌, ℕ, ◌⊎◌, inl, inr, List, [], ◌∷◌, ◌++◌, length, Option, Some, None, refl, subst, arith}
use Rattle.std.specs.Prelude.{Result, Ok, Err}
use Rattle.eh_bus.specs.Segment.{Segment}
use Rattle.eh_codes.specs.Cut.{split_codes}
use Rattle.eh_bytecode.specs.Recipe.{recipe}
use Rattle.eh_bytecode.specs.declared.recipe.Recipe.{Recipe}
use Rattle.eh_bytecode.specs.declared.recipe.RecipeFault.{RecipeFault}
use Rattle.eh_phase.specs.Frames.{entry_contents_at, site_of, frame_and_outer, frame_of}
use Rattle.eh_phase.specs.Phases.{Frame}
use Rattle.eh_phase.specs.declared.walk.CoveringEntry.{CoveringEntry}
use Rattle.frame_check.specs.Accepts.{Accepted}
use Rattle.sim_machines.specs.Activations.{Caller, Activation, registers_of, if_recipe, activation_frames, outer_frames, frames_at}
use Rattle.sim_steps.specs.sim_relation.Holds.{IsWhole}
use Rattle.sim_steps.specs.sim_relation.Chain.{Chain}
use Rattle.sim_throws.specs.sim_frames.Landings.{Reads, AtCall}
use Rattle.sim_throws.proofs.sim_frames.Located.{Sides, side_at}

module _ (x : Accepted) (segments : List Segment) (home : ℕ × ℕ) where
  abbrev pub Called : Frame → Activation → Type 0
  Called f a = Reads x.image f × AtCall x segments f a

  called_outside : (c : Caller) (acts : List Activation) → IsWhole c → Chain x segments home c acts → Sides Called (outer_frames x.image None c acts).frames acts
  called_outside c [] whole ch = tt
  called_outside c (a ∷ more) whole ch = go (entry_contents_at x.image (site_of (registers_of c))) refl (called_outside a.caller more ch.0.whole ch.1)
    where
      by_recipe : (v : CoveringEntry) (o : Result Recipe RecipeFault) → entry_contents_at x.image (site_of (registers_of c)) ≡ Some v → Sides Called (outer_frames x.image None a.caller more).frames more
          → Sides Called (frame_and_outer (frame_of (site_of (registers_of c)) (registers_of c) v) (if_recipe o (outer_frames x.image None a.caller more))).frames (a ∷ more)
      by_recipe v (Ok done) e h = ((record { covered = v; covers = e; items = refl }, record { inside = c; stands = ch.0; whole = whole; site = refl; registers = refl }), h)
      by_recipe v (Err why) e h = ((record { covered = v; covers = e; items = refl }, record { inside = c; stands = ch.0; whole = whole; site = refl; registers = refl }), tt)

      go : (o : Option CoveringEntry) → entry_contents_at x.image (site_of (registers_of c)) ≡ o → Sides Called (outer_frames x.image None a.caller more).frames more
          → Sides Called (activation_frames (outer_frames x.image None a.caller more) (site_of (registers_of c)) (registers_of c) o).frames (a ∷ more)
      go None e h = tt
      go (Some v) e h = by_recipe v (recipe (split_codes v.codes)) e h

  module _ (site : ℕ) (r : List ℕ) (a : Activation) (outer : List Activation) (whole : IsWhole a.caller) (ch : Chain x segments home a.caller outer) where
    -- the first, at the site
    pub record IsHead (f : Frame) (b : Activation) (more : List Activation) : Type 0 where
      pub covered : CoveringEntry
      pub covers : entry_contents_at x.image site ≡ Some covered
      pub frame : f ≡ frame_of site r covered
      pub first : b ≡ a
      pub rest : more ≡ outer

    no_frames : (inner : List Frame) (f : Frame) (rest : List Frame) → [] ≡ inner ++ f ∷ rest → ⊥
    no_frames [] f rest e = absurd cc
    no_frames (i ∷ inner) f rest e = absurd cc

    at_head : (f : Frame) (rest : List Frame) (b : Activation) (more : List Activation) → (frames_at x.image None site r a outer).frames ≡ f ∷ rest → a ∷ outer ≡ b ∷ more → IsHead f b more
    at_head f rest b more e all = go (entry_contents_at x.image site) refl e
      where
        first_of : (v : CoveringEntry) (o : Result Recipe RecipeFault) → (frame_and_outer (frame_of site r v) (if_recipe o (outer_frames x.image None a.caller outer))).frames ≡ f ∷ rest → f ≡ frame_of site r v
        first_of v o h = cc

        go : (o : Option CoveringEntry) → entry_contents_at x.image site ≡ o → (activation_frames (outer_frames x.image None a.caller outer) site r o).frames ≡ f ∷ rest → IsHead f b more
        go None is h = absurd (no_frames [] f rest h)
        go (Some v) is h = record { covered = v; covers = is; frame = first_of v (recipe (split_codes v.codes)) h; first = cc; rest = cc }

    after_head : (i : Frame) (rest : List Frame) (o : Option CoveringEntry) → (activation_frames (outer_frames x.image None a.caller outer) site r o).frames ≡ i ∷ rest → Sides Called rest outer
    after_head i rest None e = absurd (no_frames [] i rest e)
    after_head i rest (Some v) e = go (recipe (split_codes v.codes)) e
      where
        go : (o : Result Recipe RecipeFault) → (frame_and_outer (frame_of site r v) (if_recipe o (outer_frames x.image None a.caller outer))).frames ≡ i ∷ rest → Sides Called rest outer
        go (Ok done) h =
            let same : (outer_frames x.image None a.caller outer).frames ≡ rest = cc in
            subst (λ (fs : List Frame). Sides Called fs outer) same (called_outside a.caller outer whole ch)
        go (Err why) h =
            let none : [] ≡ rest = cc in
            subst (λ (fs : List Frame). Sides Called fs outer) none tt

    -- an entered frame is the first or a caller's
    pub head_or_caller : (inner : List Frame) (f : Frame) (rest : List Frame) (cut_off : List Activation) (b : Activation) (more : List Activation)
        → (frames_at x.image None site r a outer).frames ≡ inner ++ f ∷ rest → a ∷ outer ≡ cut_off ++ b ∷ more → length inner ≡ length cut_off
        → ((length cut_off ≡ 0) × IsHead f b more) ⊎ Called f b
    head_or_caller [] f rest [] b more e all n = inl (refl, at_head f rest b more e all)
    head_or_caller [] f rest (c ∷ cut_off) b more e all n = absurd (omega (arith, n))
    head_or_caller (i ∷ inner) f rest [] b more e all n = absurd (omega (arith, n))
    head_or_caller (i ∷ inner) f rest (c ∷ cut_off) b more e all n =
        let below : outer ≡ cut_off ++ b ∷ more = cc in
        inr (side_at Called inner f rest cut_off b more (let m : length inner ≡ length cut_off = omega (arith, n) in m)
        (subst (λ (acts : List Activation). Sides Called (inner ++ f ∷ rest) acts) below (after_head i (inner ++ f ∷ rest) (entry_contents_at x.image site) e)))
