-- The pads that are due read no register of the first frame but sp.
use Rattle.std.proofs.Common.{◌≡◌, ℕ, Bool, true, false, cond, List, [], ◌∷◌, ◌++◌, Option, Some, None, Result, Ok, Err, refl, sym, ◌∙◌, ap}
use Rattle.std.specs.Prelude.{slice_index, ◌==◌, ◌&&◌}
use Rattle.std.specs.List.{cons_option, flat_map}
use Rattle.std.specs.Option.{option_to_list}
use Rattle.elf_image.specs.Image.{Image}
use Rattle.eh_bytecode.specs.Recipe.{recipe}
use Rattle.eh_desc.specs.declared.descriptor.Desc.{Desc}
use Rattle.eh_desc.specs.declared.descriptor.DescKind.{DescKind}
use Rattle.eh_desc.specs.declared.descriptor.DescKind.TheVariants as kind
use Rattle.eh_desc.specs.declared.descriptor.DescFault.{DescFault}
use Rattle.eh_phase.specs.declared.phase2.Goal.{Goal}
use Rattle.eh_phase.specs.declared.phase2.Entered.{Entered}
use Rattle.eh_phase.specs.declared.phase2.Entered.TheVariants as enters
use Rattle.eh_phase.specs.Cleanups.{remaining_landings, due_in, cleanup_item, cleanup_by, is_barrier_item, can_stop}
use Rattle.eh_phase.specs.Frames.{entry_contents_at, frame_of}
use Rattle.eh_phase.specs.Phases.{Frame, Place, descriptor_places, places, places_in, from_address, vrs_of, is_goal, enter_spec, enter_by_kind, enter_item}
use Rattle.eh_phase.specs.Verdict.{in_scope}
use Rattle.eh_phase.specs.declared.walk.CoveringEntry.{CoveringEntry}
use Rattle.eh_phase.proofs.Due.{due_past, due_stop}
use Rattle.eh_codes.specs.Cut.{split_codes}
use Rattle.thumb_core.specs.Registers.{even}
use Rattle.thumb_core.specs.declared.regs.TheConstants.{SP}
use Rattle.sim_machines.specs.Activations.{Activation, if_recipe, activation_frames, outer_frames, frames_at}
use Rattle.sim_relation.specs.Cleanups.{by_sp}
use Rattle.sim_landings.specs.Landings.{Pad, pad_in, pads}

abbrev at_sp : ℕ → ℕ → List Pad
at_sp pad sp = let p : Pad = (even pad, sp) in p ∷ []

abbrev one : Option Entered → List Pad
one o = pads (option_to_list o)

-- what is due first goes first
pads_front : (o : Option Entered) (es : List Entered) → pads (cons_option o es) ≡ one o ++ pads es
pads_front None es = refl
pads_front (Some e) es = go (pad_in e)
  where
    go : (p : Option Pad) → cons_option p (pads es) ≡ cons_option p [] ++ pads es
    go None = refl
    go (Some at) = refl

module _ (g : Goal) (f h : Frame) (site : f.site ≡ h.site) (sp : f.sp ≡ h.sp) (register : slice_index f.r SP ≡ slice_index h.r SP) where
  same_scope : (d : Desc) → in_scope f.site d ≡ in_scope h.site d
  same_scope d = ap (λ n. in_scope n d) site

  same_goal : (at : ℕ) → is_goal g f at ≡ is_goal g h at
  same_goal at = ap (λ n. (n == g.sp) && (at == g.desc)) sp

  choose : (b c : Bool) (x y : Option Entered) → b ≡ c → one x ≡ one y → one (cond b x None) ≡ one (cond c y None)
  choose b c x y e h = ap (λ t. one (cond t x None)) e ∙ go c
    where
      go : (t : Bool) → one (cond t x None) ≡ one (cond t y None)
      go true = h
      go false = refl

  at_pad : (pad : ℕ) → at_sp pad (slice_index f.r SP) ≡ at_sp pad (slice_index h.r SP)
  at_pad pad = ap (at_sp pad) register

  by_spec : (pad : Option ℕ) → one (Some (enter_spec f pad)) ≡ one (Some (enter_spec h pad))
  by_spec None = refl
  by_spec (Some pad) = at_pad pad

  by_kind : (d : Desc) (k : DescKind) → one (enter_by_kind g f d k) ≡ one (enter_by_kind g h d k)
  by_kind d (kind.Cleanup pad) = at_pad pad
  by_kind d (kind.Catch pad reference type) = choose (is_goal g f d.at) (is_goal g h d.at) (Some (enters.Catch (vrs_of f) pad)) (Some (enters.Catch (vrs_of h) pad)) (same_goal d.at) (at_pad pad)
  by_kind d (kind.Spec types count pad) = choose (is_goal g f d.at) (is_goal g h d.at) (Some (enter_spec f pad)) (Some (enter_spec h pad)) (same_goal d.at) (by_spec pad)

  same_entered : (i : Result Desc DescFault) → one (enter_item g f i) ≡ one (enter_item g h i)
  same_entered (Err fault) = refl
  same_entered (Ok d) = choose (in_scope f.site d) (in_scope h.site d) (enter_by_kind g f d d.kind) (enter_by_kind g h d d.kind) (same_scope d) (by_kind d d.kind)

  clean_kind : (d : Desc) (k : DescKind) → one (cleanup_by f d k) ≡ one (cleanup_by h d k)
  clean_kind d (kind.Cleanup pad) = at_pad pad
  clean_kind d (kind.Catch pad reference type) = refl
  clean_kind d (kind.Spec types count pad) = refl

  same_cleanup : (i : Result Desc DescFault) → one (cleanup_item f i) ≡ one (cleanup_item h i)
  same_cleanup (Err fault) = refl
  same_cleanup (Ok d) = choose (in_scope f.site d) (in_scope h.site d) (cleanup_by f d d.kind) (cleanup_by h d d.kind) (same_scope d) (clean_kind d d.kind)

  same_barrier : (i : Result Desc DescFault) → is_barrier_item g f i ≡ is_barrier_item g h i
  same_barrier (Err fault) = refl
  same_barrier (Ok d) = ap (λ b. b && (can_stop d.kind && is_goal g f d.at)) (same_scope d) ∙ ap (λ b. in_scope h.site d && (can_stop d.kind && b)) (same_goal d.at)

  abbrev at_f : Result Desc DescFault → Place
  at_f i = record { frame = f; item = i }

  abbrev at_h : Result Desc DescFault → Place
  at_h i = record { frame = h; item = i }

  pub pads_head : (xs : List (Result Desc DescFault)) (rest : List Place) → pads (due_in g (descriptor_places f xs ++ rest)) ≡ pads (due_in g (descriptor_places h xs ++ rest))
  pads_head [] rest = refl
  pads_head (i ∷ xs) rest = go (is_barrier_item g f i) refl (pads_head xs rest)
    where
      go : (b : Bool) → is_barrier_item g f i ≡ b → pads (due_in g (descriptor_places f xs ++ rest)) ≡ pads (due_in g (descriptor_places h xs ++ rest)) → pads (due_in g (at_f i ∷ (descriptor_places f xs ++ rest))) ≡ pads (due_in g (at_h i ∷ (descriptor_places h xs ++ rest)))
      go true e w =
          ap pads (due_stop g (at_f i) (descriptor_places f xs ++ rest) e) ∙ same_entered i
          ∙ sym (ap pads (due_stop g (at_h i) (descriptor_places h xs ++ rest) (sym (same_barrier i) ∙ e)))
      go false e w =
          ap pads (due_past g (at_f i) (descriptor_places f xs ++ rest) e) ∙ pads_front (cleanup_item f i) (due_in g (descriptor_places f xs ++ rest))
          ∙ ap (λ ps. ps ++ pads (due_in g (descriptor_places f xs ++ rest))) (same_cleanup i) ∙ ap (λ ps. one (cleanup_item h i) ++ ps) w
          ∙ sym (ap pads (due_past g (at_h i) (descriptor_places h xs ++ rest) (sym (same_barrier i) ∙ e)) ∙ pads_front (cleanup_item h i) (due_in g (descriptor_places h xs ++ rest)))

-- frames from one activation, whose registers have the same sp
pub pads_by_sp : (g : Goal) (next : ℕ) (image : Image) (site : ℕ) (r : List ℕ) (sp : ℕ) (a : Activation) (outer : List Activation) → slice_index r SP ≡ sp
    → pads (remaining_landings g next (frames_at image None site r a outer).frames) ≡ pads (remaining_landings g next (frames_at image None site (by_sp sp) a outer).frames)
unfolding places
pads_by_sp g next image site r sp a outer e = go (entry_contents_at image site)
  where
    go : (o : Option CoveringEntry) → pads (remaining_landings g next (activation_frames (outer_frames image None a.caller outer) site r o).frames) ≡ pads (remaining_landings g next (activation_frames (outer_frames image None a.caller outer) site (by_sp sp) o).frames)
    go None = refl
    go (Some c) =
        pads_head g (frame_of site r c) (frame_of site (by_sp sp) c) refl e e (from_address next c.descs) (flat_map places_in (if_recipe (recipe (split_codes c.codes)) (outer_frames image None a.caller outer)).frames)
