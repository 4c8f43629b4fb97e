-- After the frames that phase 2 passes stands the one that it enters.
use Rattle.std.proofs.Common.{◌≡◌, ℕ, suc, Bool, true, false, cond, List, [], ◌∷◌, drop, Option, Some, None, is_some, unwrap_or, Result, Ok, Err, refl, sym, ap, subst, ◌∙◌}
use Rattle.eh_phase.specs.eh_desc.declared.descriptor.DescKind.{DescKind}
use Rattle.eh_phase.specs.eh_desc.declared.descriptor.DescKind.TheVariants as kind
use Rattle.eh_phase.specs.eh_desc.declared.descriptor.Desc.{Desc}
use Rattle.eh_phase.specs.eh_desc.declared.descriptor.DescFault.{DescFault}
use Rattle.eh_phase.specs.Firsts.{first_some, or_else}
use Rattle.eh_phase.specs.Verdict.{in_scope}
use Rattle.eh_phase.specs.Phases.{Frame, descriptor_places, from_address, places, is_goal, vrs_of, enter_spec, enter_by_kind, enter_item, enter_at_place, phase2}
use Rattle.eh_phase.specs.declared.phase2.Entered.{Entered}
use Rattle.eh_phase.specs.declared.phase2.Entered.TheVariants as enters
use Rattle.eh_phase.specs.declared.phase2.Goal.{Goal}
use Rattle.eh_phase.proofs.First.{first-append}
use Rattle.eh_phase.proofs.Goes.{places-from}
use Rattle.sim_machines.specs.ActivationMachine.{passed_frame_count}
use Rattle.sim_machines.specs.ActivationLaws.{StandsIn, LandingsStandInTheirFrames}

-- what is entered, if anything is, is entered in this frame
abbrev Fine : Frame → Option Entered → Type 0
Fine f None = Unit {0}
Fine f (Some e) = StandsIn f e

if_fine : (f : Frame) (b : Bool) (o : Option Entered) → Fine f o → Fine f (cond b o None)
if_fine f true o h = h
if_fine f false o h = tt

spec_fine : (f : Frame) (pad : Option ℕ) → StandsIn f (enter_spec f pad)
spec_fine f None = tt
spec_fine f (Some pad) = refl

kind_fine : (g : Goal) (f : Frame) (d : Desc) (k : DescKind) → Fine f (enter_by_kind g f d k)
kind_fine g f d (kind.Cleanup pad) = (refl, refl)
kind_fine g f d (kind.Catch pad reference type) = if_fine f (is_goal g f d.at) (Some (enters.Catch (vrs_of f) pad)) refl
kind_fine g f d (kind.Spec types count pad) = if_fine f (is_goal g f d.at) (Some (enter_spec f pad)) (spec_fine f pad)

item_fine : (g : Goal) (f : Frame) (i : Result Desc DescFault) → Fine f (enter_item g f i)
item_fine g f (Ok d) = if_fine f (in_scope f.site d) (enter_by_kind g f d d.kind) (kind_fine g f d d.kind)
item_fine g f (Err fault) = tt

next_fine : (f : Frame) (o more : Option Entered) → Fine f o → Fine f more → Fine f (or_else o more)
next_fine f (Some e) more h k = h
next_fine f None more h k = k

items_fine : (g : Goal) (f : Frame) (items : List (Result Desc DescFault)) → Fine f (first_some (enter_at_place g) (descriptor_places f items))
unfolding first_some
items_fine g f [] = tt
items_fine g f (i ∷ more) = next_fine f (enter_item g f i) (first_some (enter_at_place g) (descriptor_places f more)) (item_fine g f i) (items_fine g f more)

-- the first frame, and then those outside it
split : (g : Goal) (from : ℕ) (f : Frame) (more : List Frame)
    → first_some (enter_at_place g) (places from (f ∷ more)) ≡ or_else (first_some (enter_at_place g) (descriptor_places f (from_address from f.items))) (first_some (enter_at_place g) (places 0 more))
split g from f more = ap (first_some (enter_at_place g)) (places-from from f more) ∙ first-append (enter_at_place g) (descriptor_places f (from_address from f.items)) (places 0 more)

none_left : (g : Goal) (from : ℕ) → first_some (enter_at_place g) (places from []) ≡ None
unfolding first_some places
none_left g from = refl

passes_in : (g : Goal) (from : ℕ) (xs : List Frame) (d : Entered) (f : Frame) (rest : List Frame) → drop (passed_frame_count g from xs) xs ≡ f ∷ rest
    → StandsIn f (unwrap_or (first_some (enter_at_place g) (places from xs)) d)
unfolding passed_frame_count
passes_in g from [] d f rest e = absurd (cc)
passes_in g from (x ∷ more) d f rest e =
    subst (λ (o : Option Entered). StandsIn f (unwrap_or o d)) (sym (split g from x more))
    (go (first_some (enter_at_place g) (descriptor_places x (from_address from x.items))) (items_fine g x (from_address from x.items)) (passes_in g 0 more d f rest) e)
  where
    go : (o : Option Entered) → Fine x o → (drop (passed_frame_count g 0 more) more ≡ f ∷ rest → StandsIn f (unwrap_or (first_some (enter_at_place g) (places 0 more)) d))
        → drop (cond (is_some o) 0 (suc (passed_frame_count g 0 more))) (x ∷ more) ≡ f ∷ rest → StandsIn f (unwrap_or (or_else o (first_some (enter_at_place g) (places 0 more))) d)
    go (Some t) h k q = let same : x ≡ f = cc in subst (λ (y : Frame). StandsIn y t) same h
    go None h k q = k q

all_passed : (g : Goal) (from : ℕ) (xs : List Frame) → drop (passed_frame_count g from xs) xs ≡ [] → first_some (enter_at_place g) (places from xs) ≡ None
unfolding passed_frame_count
all_passed g from [] e = none_left g from
all_passed g from (x ∷ more) e = split g from x more ∙ go (first_some (enter_at_place g) (descriptor_places x (from_address from x.items))) (all_passed g 0 more) e
  where
    go : (o : Option Entered) → (drop (passed_frame_count g 0 more) more ≡ [] → first_some (enter_at_place g) (places 0 more) ≡ None)
        → drop (cond (is_some o) 0 (suc (passed_frame_count g 0 more))) (x ∷ more) ≡ [] → or_else o (first_some (enter_at_place g) (places 0 more)) ≡ None
    go (Some t) k q = absurd (cc)
    go None k q = k q

pub landings_stand : LandingsStandInTheirFrames
unfolding phase2
landings_stand g from fs = record {
  lands = λ f rest e. passes_in g from fs.frames (enters.Terminate fs.last) f rest e;
  ends = λ e. ap (λ (o : Option Entered). unwrap_or o (enters.Terminate fs.last)) (all_passed g from fs.frames e);
}
