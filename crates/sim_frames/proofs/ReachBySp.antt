-- Whether a barrier is within reach reads no register of the first frame but sp.
use Rattle.std.proofs.Common.{◌≡◌, Ok, refl, Result, ◌||◌, List, ◌∷◌, Err, false, Bool, [], ◌++◌, sym, ap, ◌∙◌, ℕ, Option, Some, None}
use Rattle.std.proofs.lemmas.List.Sums.{take_while-cons}
use Rattle.std.specs.Prelude.{slice_index}
use Rattle.std.specs.List.{flat_map}
use Rattle.eh_desc.specs.declared.descriptor.Desc.{Desc}
use Rattle.eh_phase.specs.Cleanups.{is_barrier_item, can_be_read, is_reached_in, is_reached}
use Rattle.eh_phase.specs.Phases.{Frame, Place, descriptor_places, places, places_in, from_address}
use Rattle.eh_phase.specs.declared.phase2.Goal.{Goal}
use Rattle.eh_desc.specs.declared.descriptor.DescFault.{DescFault}
use Rattle.eh_codes.specs.Cut.{split_codes}
use Rattle.elf_image.specs.Image.{Image}
use Rattle.eh_bytecode.specs.Recipe.{recipe}
use Rattle.eh_phase.specs.Frames.{entry_contents_at, frame_of}
use Rattle.eh_phase.specs.declared.walk.CoveringEntry.{CoveringEntry}
use Rattle.thumb_core.specs.declared.regs.TheConstants.{SP}
use Rattle.sim_relation.specs.sim_machines.Activations.{Activation, if_recipe, activation_frames, outer_frames, frames_at}
use Rattle.sim_relation.specs.Cleanups.{by_sp}

same_barrier : (g : Goal) (f h : Frame) (d : Desc) → f.site ≡ h.site → f.sp ≡ h.sp → is_barrier_item g f (Ok d) ≡ is_barrier_item g h (Ok d)
same_barrier g f h d same e = rw (same, e) refl

abbrev pub placed_item : Frame → Result Desc DescFault → Place
placed_item f i = record { frame = f; item = i }

pub reached_read : (g : Goal) (f : Frame) (d : Desc) (ps : List Place) → is_reached_in g (placed_item f (Ok d) ∷ ps) ≡ is_barrier_item g f (Ok d) || is_reached_in g ps
unfolding is_reached_in
reached_read g f d ps = rw (take_while-cons (λ (x : Place). can_be_read x.item) (placed_item f (Ok d)) ps) refl

pub reached_unread : (g : Goal) (f : Frame) (fault : DescFault) (ps : List Place) → is_reached_in g (placed_item f (Err fault) ∷ ps) ≡ false
unfolding is_reached_in
reached_unread g f fault ps = refl

reach_head : (g : Goal) (f h : Frame) → f.site ≡ h.site → f.sp ≡ h.sp → (xs : List (Result Desc DescFault)) (rest : List Place) → is_reached_in g (descriptor_places f xs ++ rest) ≡ is_reached_in g (descriptor_places h xs ++ rest)
reach_head g f h same e [] rest = refl
reach_head g f h same e (Err fault ∷ xs) rest = reached_unread g f fault (descriptor_places f xs ++ rest) ∙ sym (reached_unread g h fault (descriptor_places h xs ++ rest))
reach_head g f h same e (Ok d ∷ xs) rest =
    reached_read g f d (descriptor_places f xs ++ rest) ∙ ap (λ (b : Bool). b || is_reached_in g (descriptor_places f xs ++ rest)) (same_barrier g f h d same e)
    ∙ ap (λ (b : Bool). is_barrier_item g h (Ok d) || b) (reach_head g f h same e xs rest) ∙ sym (reached_read g h d (descriptor_places h xs ++ rest))

-- frames from one activation, whose registers have the same sp
pub reached_by_sp : (g : Goal) (next : ℕ) (image : Image) (site : ℕ) (r : List ℕ) (sp : ℕ) (a : Activation) (outer : List Activation) → slice_index r SP ≡ sp
    → is_reached g next (frames_at image None site r a outer).frames ≡ is_reached g next (frames_at image None site (by_sp sp) a outer).frames
unfolding places
reached_by_sp g next image site r sp a outer e = go (entry_contents_at image site)
  where
    go : (o : Option CoveringEntry) → is_reached g next (activation_frames (outer_frames image None a.caller outer) site r o).frames ≡ is_reached g next (activation_frames (outer_frames image None a.caller outer) site (by_sp sp) o).frames
    go None = refl
    go (Some c) = reach_head g (frame_of site r c) (frame_of site (by_sp sp) c) refl e (from_address next c.descs) (flat_map places_in (if_recipe (recipe (split_codes c.codes)) (outer_frames image None a.caller outer)).frames)
