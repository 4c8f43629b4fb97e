-- Landing pads, for the checker and for phase 2.
use Rattle.std.proofs.Common.{◌≡◌, ℕ, Bool, true, false, ◌&&◌, cond, Option, Some, None, Ok, refl, ap, subst}
use Rattle.eh_desc.specs.declared.descriptor.Desc.{Desc}
use Rattle.eh_desc.specs.declared.descriptor.DescKind.{DescKind}
use Rattle.eh_desc.specs.declared.descriptor.DescKind.TheVariants.{Cleanup, Catch, Spec}
use Rattle.eh_phase.specs.declared.phase2.Entered.{Entered}
use Rattle.eh_phase.specs.declared.phase2.Entered.TheVariants as enters
use Rattle.eh_phase.specs.declared.phase2.Goal.{Goal}
use Rattle.eh_phase.specs.Phases.{Frame, is_goal, enter_spec, enter_by_kind, enter_item}
use Rattle.frame_entries.specs.Scopes.{is_scope_at, is_cleanup_at, pad_of, pad_for, is_cleanup}
use Rattle.frame_laws.specs.SiteLaws.{PadsAreOne, landing_pad_of, is_cleanup_entered}

-- what a descriptor in scope enters
record Is (k : DescKind) (e : Entered) : Type 0 where
  pub pad : pad_of k ≡ landing_pad_of e
  pub cleanup : is_cleanup k ≡ is_cleanup_entered e

spec_is : (f : Frame) (types count : ℕ) (pad : Option ℕ) (e : Entered) → Some (enter_spec f pad) ≡ Some e → Is (Spec types count pad) e
spec_is f types count None e h = let same : enters.Unexpected ≡ e = cc in subst (Is (Spec types count None)) same (record { pad = refl; cleanup = refl })
spec_is f types count (Some pad) e h = let same : enter_spec f (Some pad) ≡ e = cc in subst (Is (Spec types count (Some pad))) same (record { pad = refl; cleanup = refl })

entered_is : (g : Goal) (f : Frame) (d : Desc) (k : DescKind) (e : Entered) → enter_by_kind g f d k ≡ Some e → Is k e
entered_is g f d (Cleanup pad) e h =
    let same : enters.Cleanup (record { r = f.r }) pad d.next f.site ≡ e = cc in subst (Is (Cleanup pad)) same (record { pad = refl; cleanup = refl })
entered_is g f d (Catch pad reference type) e h = go (is_goal g f d.at) h
  where
    go : (b : Bool) → cond b (Some (enters.Catch (record { r = f.r }) pad)) None ≡ Some e → Is (Catch pad reference type) e
    go true h = let same : enters.Catch (record { r = f.r }) pad ≡ e = cc in subst (Is (Catch pad reference type)) same (record { pad = refl; cleanup = refl })
    go false h = absurd cc
entered_is g f d (Spec types count pad) e h = go (is_goal g f d.at) h
  where
    go : (b : Bool) → cond b (Some (enter_spec f pad)) None ≡ Some e → Is (Spec types count pad) e
    go true h = spec_is f types count pad e h
    go false h = absurd cc

pads : (g : Goal) (f : Frame) (d : Desc) (e : Entered) → enter_item g f (Ok d) ≡ Some e → (pad_for f.site d ≡ landing_pad_of e) × (is_cleanup_at f.site d ≡ is_cleanup_entered e)
pads g f d e h = go (is_scope_at f.site d) h
  where
    go : (b : Bool) → cond b (enter_by_kind g f d d.kind) None ≡ Some e → (cond b (pad_of d.kind) None ≡ landing_pad_of e) × ((b && is_cleanup d.kind) ≡ is_cleanup_entered e)
    go true h = let is = entered_is g f d d.kind e h in (is.pad, is.cleanup)
    go false h = absurd cc

outside : (g : Goal) (f : Frame) (d : Desc) → is_scope_at f.site d ≡ false → enter_item g f (Ok d) ≡ None
outside g f d out = ap (λ b. cond b (enter_by_kind g f d d.kind) None) out

cleaned : (g : Goal) (f : Frame) (d : Desc) → is_cleanup_at f.site d ≡ true → (e : Entered) × (enter_item g f (Ok d) ≡ Some e)
cleaned g f d h = go (is_scope_at f.site d) d.kind h
  where
    go : (b : Bool) (k : DescKind) → (b && is_cleanup k) ≡ true → (e : Entered) × (cond b (enter_by_kind g f d k) None ≡ Some e)
    go true (Cleanup pad) h = (enters.Cleanup (record { r = f.r }) pad d.next f.site, refl)
    go true (Catch pad reference type) h = absurd cc
    go true (Spec types count pad) h = absurd cc
    go false k h = absurd cc

pub pads_one : PadsAreOne
pads_one = record {
  pad = λ g f d e h. (pads g f d e h).0;
  cleanup = λ g f d e h. (pads g f d e h).1;
  outside = outside;
  cleans = cleaned;
}
