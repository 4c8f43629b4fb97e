-- The frames from an entered one on are those of its activation at its site.
use Rattle.std.proofs.Common.{◌≡◌, List, [], ◌∷◌, ◌++◌, ℕ, length, Option, Some, None, refl, sym, ap, subst, ◌∙◌, arith}
use Rattle.std.specs.Prelude.{Result, Ok, Err}
use Rattle.eh_phase.specs.Phases.{Frame}
use Rattle.elf_image.specs.Image.{Image}
use Rattle.eh_codes.specs.Cut.{split_codes}
use Rattle.eh_bytecode.specs.Recipe.{recipe}
use Rattle.eh_bytecode.specs.declared.recipe.Recipe.{Recipe}
use Rattle.eh_bytecode.specs.declared.recipe.RecipeFault.{RecipeFault}
use Rattle.eh_phase.specs.Frames.{entry_contents_at, site_of, frame_and_outer, frame_of}
use Rattle.eh_phase.specs.declared.walk.CoveringEntry.{CoveringEntry}
use Rattle.sim_machines.specs.Activations.{Activation, registers_of, if_recipe, activation_frames, outer_frames, frames_at}

no_frames : (inner : List Frame) (f : Frame) (outer : List Frame) → [] ≡ inner ++ f ∷ outer → ⊥
no_frames [] f outer e = absurd cc
no_frames (i ∷ inner) f outer e = absurd cc

pub frames_after : (image : Image) (site : ℕ) (r : List ℕ) (a : Activation) (acts : List Activation) (inner : List Frame) (f : Frame) (outer : List Frame) (cut_off : List Activation) (first : Activation) (more : List Activation)
    → (frames_at image None site r a acts).frames ≡ inner ++ f ∷ outer → a ∷ acts ≡ cut_off ++ first ∷ more → length inner ≡ length cut_off → (frames_at image None f.site f.r first more).frames ≡ f ∷ outer
frames_after image site r a acts [] f outer (c ∷ cut_off) first more e all n = absurd (omega (arith, n))
frames_after image site r a acts (i ∷ inner) f outer [] first more e all n = absurd (omega (arith, n))
frames_after image site r a acts [] f outer [] first more e all n =
    let same : a ≡ first = cc in
    let rest : acts ≡ more = cc in
    subst (λ (b : Activation). (frames_at image None f.site f.r b more).frames ≡ f ∷ outer) same
    (subst (λ (bs : List Activation). (frames_at image None f.site f.r a bs).frames ≡ f ∷ outer) rest (go (entry_contents_at image site) refl e))
  where
    by_recipe : (c : CoveringEntry) (o : Result Recipe RecipeFault) → entry_contents_at image site ≡ Some c → recipe (split_codes c.codes) ≡ o → (frame_and_outer (frame_of site r c) (if_recipe o (outer_frames image None a.caller acts))).frames ≡ f ∷ outer
        → (frames_at image None f.site f.r a acts).frames ≡ f ∷ outer
    by_recipe c o e is h =
        let head : (frame_and_outer (frame_of site r c) (if_recipe (recipe (split_codes c.codes)) (outer_frames image None a.caller acts))).frames ≡ f ∷ outer = subst (λ (w : Result Recipe RecipeFault). (frame_and_outer (frame_of site r c) (if_recipe w (outer_frames image None a.caller acts))).frames ≡ f ∷ outer) (sym is) h in
        let one : frame_of site r c ≡ f = first_of o h in
        subst (λ (g : Frame). (frames_at image None g.site g.r a acts).frames ≡ f ∷ outer) one (ap (λ (v : Option CoveringEntry). (activation_frames (outer_frames image None a.caller acts) site r v).frames) e ∙ head)
      where
        first_of : (o : Result Recipe RecipeFault) → (frame_and_outer (frame_of site r c) (if_recipe o (outer_frames image None a.caller acts))).frames ≡ f ∷ outer → frame_of site r c ≡ f
        first_of o h = cc

    go : (o : Option CoveringEntry) → entry_contents_at image site ≡ o → (activation_frames (outer_frames image None a.caller acts) site r o).frames ≡ f ∷ outer → (frames_at image None f.site f.r a acts).frames ≡ f ∷ outer
    go None e h = absurd (no_frames [] f outer h)
    go (Some c) e h = by_recipe c (recipe (split_codes c.codes)) e refl h
frames_after image site r a [] (i ∷ inner) f outer (c ∷ cut_off) first more e all n = absurd (none cut_off (let rest : [] ≡ cut_off ++ first ∷ more = cc in rest))
  where
    none : (cs : List Activation) → [] ≡ cs ++ first ∷ more → ⊥
    none [] e = absurd cc
    none (c ∷ cs) e = absurd cc
frames_after image site r a (b ∷ acts) (i ∷ inner) f outer (c ∷ cut_off) first more e all n =
    let rest : b ∷ acts ≡ cut_off ++ first ∷ more = cc in
    frames_after image (site_of (registers_of a.caller)) (registers_of a.caller) b acts inner f outer cut_off first more (go (entry_contents_at image site) e) rest (let m : length inner ≡ length cut_off = omega (arith, n) in m)
  where
    by_recipe : (d : CoveringEntry) (o : Result Recipe RecipeFault) → (frame_and_outer (frame_of site r d) (if_recipe o (outer_frames image None a.caller (b ∷ acts)))).frames ≡ i ∷ (inner ++ f ∷ outer)
        → (frames_at image None (site_of (registers_of a.caller)) (registers_of a.caller) b acts).frames ≡ inner ++ f ∷ outer
    by_recipe d (Ok done) h = cc
    by_recipe d (Err why) h = absurd (no_frames inner f outer (let k : [] ≡ inner ++ f ∷ outer = cc in k))

    go : (o : Option CoveringEntry) → (activation_frames (outer_frames image None a.caller (b ∷ acts)) site r o).frames ≡ i ∷ (inner ++ f ∷ outer)
        → (frames_at image None (site_of (registers_of a.caller)) (registers_of a.caller) b acts).frames ≡ inner ++ f ∷ outer
    go None h = absurd (no_frames (i ∷ inner) f outer h)
    go (Some d) h = by_recipe d (recipe (split_codes d.codes)) h
