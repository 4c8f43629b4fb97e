-- A landing leaves what is due of every other exception.
use Rattle.std.proofs.Common.{◌≡◌, ℕ, ◌==◌, Bool, true, false, cond, List, ◌∷◌, refl, sym, ◌∙◌, ap, subst}
use Rattle.std.specs.Prelude.{slice_index}
use Rattle.std.proofs.lemmas.Bool.{eqb-true}
use Rattle.eh_bus.specs.Lists.{Has}
use Rattle.elf_image.specs.Image.{Image}
use Rattle.eh_cxa.specs.Lists.{Cleanup, slots}
use Rattle.eh_phase.specs.declared.phase2.Entered.{Entered}
use Rattle.eh_phase.specs.declared.phase2.Entered.TheVariants as enters
use Rattle.frame_check.specs.Accepts.{Accepted}
use Rattle.thumb_core.specs.declared.regs.TheConstants.{SP}
use Rattle.sim_machines.specs.Activations.{Activation, Recorded, cleanups_in, InProgress}
use Rattle.sim_machines.specs.ActivationMachine as machine
use Rattle.sim_relation.specs.Cleanups.{goal_at, AreInProgress}
use Rattle.sim_landings.specs.Due.{due_of, due_among, left_due}
use Rattle.sim_landings.proofs.Kept.{Moved, among_kept}
use Rattle.sim_landings.proofs.Landed.{Listed}

-- what is due of a slot is that of the cleanups after one of another slot
pub after_other : (image : Image) (t : Recorded) (k : ℕ) (c : InProgress) (cleanups : List InProgress) → (c.cleanup.slot ≡ k → ⊥) → due_among image t k (c ∷ cleanups) ≡ due_among image t k cleanups
after_other image t k c cleanups differ = go (c.cleanup.slot == k) refl
  where
    go : (b : Bool) → (c.cleanup.slot == k) ≡ b → cond b (due_of image t c.place c.cleanup) (due_among image t k cleanups) ≡ due_among image t k cleanups
    go true e = absurd (differ (eqb-true c.cleanup.slot k e))
    go false e = refl

module _ (x : Accepted) (s t u : Recorded) (moved : Moved (s.first ∷ s.outer) (t.first ∷ t.outer)) (acts : List Activation) (slot k low high : ℕ) (differ : slot ≡ k → ⊥)
    (p : AreInProgress x s low u.cleanups) (q : AreInProgress x t high t.cleanups) (goal : Has (slots (cleanups_in u.cleanups)) k → goal_at t k ≡ goal_at s k) where
  -- as before
  kept : t.cleanups ≡ u.cleanups → left_due x.image t k ≡ due_among x.image s k u.cleanups
  kept l =
      let there : AreInProgress x t high u.cleanups = subst (AreInProgress x t high) l q in
      ap (due_among x.image t k) l ∙ among_kept x x.image s t k moved low high u.cleanups goal p there

  -- .. with one of the slot that landed in front
  after : (c : InProgress) → c.cleanup.slot ≡ slot → t.cleanups ≡ c ∷ u.cleanups → left_due x.image t k ≡ due_among x.image s k u.cleanups
  after c own l =
      let there : AreInProgress x t high (c ∷ u.cleanups) = subst (AreInProgress x t high) l q in
      ap (due_among x.image t k) l ∙ after_other x.image t k c u.cleanups (λ e. differ (sym own ∙ e)) ∙ among_kept x x.image s t k moved low c.cleanup.sp u.cleanups goal p there.3

  pub others_kept : (e : Entered) → Listed u acts slot e t → left_due x.image t k ≡ due_among x.image s k u.cleanups
  others_kept (enters.Cleanup vrs pad next site) l =
      after (record { cleanup = record { slot = slot; next = next; sp = slice_index vrs.r SP; site = site }; place = machine.outside_of acts }) refl l
  others_kept (enters.Catch vrs pad) l = kept l
  others_kept (enters.Spec vrs pad) l = kept l
  others_kept enters.Unexpected l = absurd l
  others_kept (enters.Terminate why) l = absurd l
