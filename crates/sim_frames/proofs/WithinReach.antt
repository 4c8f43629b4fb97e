-- Where a barrier is within reach from an entered frame on, it stands at or above that frame's sp, for sps rise outwards.
use Rattle.std.proofs.Common.{◌≡◌, ◌||◌, ◌⊎◌, inl, inr, Bool, true, false, refl, ℕ, ◌≤◌, ◌==◌, ◌&&◌, List, [], ◌∷◌, ◌++◌, Result, Ok, Err, sym, ap, ◌∙◌, arith}
use Rattle.std.proofs.lemmas.Bool.{eqb-true, and_parts}
use Rattle.eh_desc.specs.declared.descriptor.Desc.{Desc}
use Rattle.eh_desc.specs.declared.descriptor.DescFault.{DescFault}
use Rattle.eh_phase.specs.Cleanups.{is_barrier_item, can_stop, is_reached_in}
use Rattle.eh_phase.specs.Phases.{Frame, Place, descriptor_places, places, from_address, is_goal}
use Rattle.eh_phase.specs.Verdict.{in_scope}
use Rattle.eh_phase.specs.declared.phase2.Goal.{Goal}
use Rattle.sim_relation.specs.sim_machines.Activations.{Activation}
use Rattle.sim_frames.proofs.GoesHere.{places-from}
use Rattle.sim_frames.specs.Landings.{Fit, Rise}
use Rattle.sim_frames.proofs.ReachBySp.{reached_read, reached_unread}

either : (a b : Bool) → a || b ≡ true → (a ≡ true) ⊎ (b ≡ true)
either true b e = inl refl
either false b e = inr e

module _ (g : Goal) (low : ℕ) where
  at_item : (f : Frame) (d : Desc) → low ≤ f.sp → is_barrier_item g f (Ok d) ≡ true → low ≤ g.sp
  at_item f d l e =
      let goal : is_goal g f d.at ≡ true = (and_parts (can_stop d.kind) (is_goal g f d.at) ((and_parts (in_scope f.site d) (can_stop d.kind && is_goal g f d.at) e).1)).1 in
      let same : f.sp ≡ g.sp = eqb-true f.sp g.sp (and_parts (f.sp == g.sp) (d.at == g.desc) goal).0 in
      omega (arith, same, l)

  at_items : (f : Frame) (items : List (Result Desc DescFault)) (rest : List Place) → low ≤ f.sp → (is_reached_in g rest ≡ true → low ≤ g.sp) → is_reached_in g (descriptor_places f items ++ rest) ≡ true → low ≤ g.sp
  at_items f [] rest l later e = later e
  at_items f (Err fault ∷ more) rest l later e = absurd (let n : false ≡ true = sym (reached_unread g f fault (descriptor_places f more ++ rest)) ∙ e in cc)
  at_items f (Ok d ∷ more) rest l later e =
      elim (either (is_barrier_item g f (Ok d)) (is_reached_in g (descriptor_places f more ++ rest)) (sym (reached_read g f d (descriptor_places f more ++ rest)) ∙ e)) [
        | inl here ↦ at_item f d l here
        | inr further ↦ at_items f more rest l later further
      ]

  pub reached_above : (from top sp : ℕ) (fs : List Frame) (acts : List Activation) → low ≤ sp → Fit sp fs acts → Rise top sp acts → is_reached_in g (places from fs) ≡ true → low ≤ g.sp
  unfolding places is_reached_in
  reached_above from top sp [] acts l fit rise e = absurd cc
  reached_above from top sp (f ∷ more) [] l fit rise e = absurd fit
  reached_above from top sp (f ∷ more) (a ∷ acts) l fit rise e =
      at_items f (from_address from f.items) (places 0 more) (let s = fit.0 in omega (arith, s, l))
      (λ h. reached_above 0 top a.caller.sp more acts (let up = rise.1 in omega (arith, up, l)) fit.2 rise.3 h) (sym (ap (is_reached_in g) (places-from from f more)) ∙ e)
