-- What is due, place by place.
use Rattle.std.proofs.Common.{◌≡◌, ℕ, Bool, true, false, List, [], ◌∷◌, ◌++◌, refl, Option, Some, None, Result, Ok, Err}
use Rattle.std.specs.Prelude.{not}
use Rattle.std.specs.Option.{option_to_list}
use Rattle.std.specs.List.{cons_option}
use Rattle.std.proofs.lemmas.List.Sums.{take_while-cons}
use Rattle.thumb_core.specs.declared.ends.Cause.TheVariants.{CannotUnwind}
use Rattle.eh_desc.specs.declared.descriptor.Desc.{Desc}
use Rattle.eh_desc.specs.declared.descriptor.DescFault.{DescFault}
use Rattle.eh_desc.specs.declared.descriptor.DescKind.{DescKind}
use Rattle.eh_desc.specs.declared.descriptor.DescKind.TheVariants as kind
use Rattle.eh_phase.specs.declared.phase2.Goal.{Goal}
use Rattle.eh_phase.specs.declared.phase2.Entered.{Entered}
use Rattle.eh_phase.specs.declared.phase2.Entered.TheVariants as enters
use Rattle.eh_phase.specs.Verdict.{in_scope}
use Rattle.eh_phase.specs.Phases.{Frame, Place, is_goal, vrs_of, enter_item, enter_at_place}
use Rattle.eh_phase.specs.Cleanups.{is_barrier_item, is_barrier, cleanup_item, cleanup_at, cleanups_in, due_in, can_be_read, is_reached_in}

-- an entered barrier: neither a cleanup nor an end
abbrev pub Stops : Entered → Type 0
Stops (enters.Cleanup vrs pad next site) = ⊥
Stops (enters.Catch vrs pad) = Unit {0}
Stops (enters.Spec vrs pad) = Unit {0}
Stops enters.Unexpected = Unit {0}
Stops (enters.Terminate cause) = ⊥

-- an item can't be read; or nothing comes of it; or it is a cleanup in scope; or the barrier
pub data Sort (g : Goal) (f : Frame) (i : Result Desc DescFault) : Type 0 where
  Unread : can_be_read i ≡ false → (enter_item g f i ≡ Some (enters.Terminate CannotUnwind)) → Sort g f i
  Quiet : can_be_read i ≡ true → enter_item g f i ≡ None → cleanup_item f i ≡ None → is_barrier_item g f i ≡ false → Sort g f i
  Clean : (d : Desc) (pad : ℕ) → i ≡ Ok d → enter_item g f i ≡ Some (enters.Cleanup (vrs_of f) pad d.next f.site)
      → cleanup_item f i ≡ Some (enters.Cleanup (vrs_of f) pad d.next f.site) → is_barrier_item g f i ≡ false → Sort g f i
  Stop : (e : Entered) → Stops e → can_be_read i ≡ true → enter_item g f i ≡ Some e → is_barrier_item g f i ≡ true → Sort g f i

pub sort : (g : Goal) (f : Frame) (i : Result Desc DescFault) → Sort g f i
sort g f (Err fault) = Unread refl refl
sort g f (Ok d) = scoped (in_scope f.site d) refl d.kind refl
  where
    scoped : (b : Bool) → in_scope f.site d ≡ b → (k : DescKind) → d.kind ≡ k → Sort g f (Ok d)
    scoped false e k is = Quiet refl (rw e refl) (rw e refl) (rw e refl)
    scoped true e (kind.Cleanup pad) is = Clean d pad refl (rw (e, is) refl) (rw (e, is) refl) (rw (e, is) refl)
    scoped true e (kind.Catch pad reference type) is = goal (is_goal g f d.at) refl
      where
        goal : (b : Bool) → is_goal g f d.at ≡ b → Sort g f (Ok d)
        goal true h = Stop (enters.Catch (vrs_of f) pad) tt refl (rw (e, is, h) refl) (rw (e, is, h) refl)
        goal false h = Quiet refl (rw (e, is, h) refl) (rw (e, is) refl) (rw (e, is, h) refl)
    scoped true e (kind.Spec types count None) is = goal (is_goal g f d.at) refl
      where
        goal : (b : Bool) → is_goal g f d.at ≡ b → Sort g f (Ok d)
        goal true h = Stop enters.Unexpected tt refl (rw (e, is, h) refl) (rw (e, is, h) refl)
        goal false h = Quiet refl (rw (e, is, h) refl) (rw (e, is) refl) (rw (e, is, h) refl)
    scoped true e (kind.Spec types count (Some pad)) is = goal (is_goal g f d.at) refl
      where
        goal : (b : Bool) → is_goal g f d.at ≡ b → Sort g f (Ok d)
        goal true h = Stop (enters.Spec (vrs_of f) pad) tt refl (rw (e, is, h) refl) (rw (e, is, h) refl)
        goal false h = Quiet refl (rw (e, is, h) refl) (rw (e, is) refl) (rw (e, is, h) refl)

-- ---- one place more

cons-append : (o : Option Entered) (xs ys : List Entered) → cons_option o xs ++ ys ≡ cons_option o (xs ++ ys)
cons-append None xs ys = refl
cons-append (Some x) xs ys = refl

pub due_past : (g : Goal) (p : Place) (ps : List Place) → is_barrier g p ≡ false → due_in g (p ∷ ps) ≡ cons_option (cleanup_at p) (due_in g ps)
unfolding due_in cleanups_in
due_past g p ps e =
    rw (take_while-cons (λ x. not (is_barrier g x)) p ps, e) (cons-append (cleanup_at p) _ _)

pub due_stop : (g : Goal) (p : Place) (ps : List Place) → is_barrier g p ≡ true → due_in g (p ∷ ps) ≡ option_to_list (enter_at_place g p)
unfolding due_in cleanups_in
due_stop g p ps e = rw (take_while-cons (λ x. not (is_barrier g x)) p ps, e) refl

pub reached_unread : (g : Goal) (p : Place) (ps : List Place) → can_be_read p.item ≡ false → is_reached_in g (p ∷ ps) ≡ false
unfolding is_reached_in
reached_unread g p ps e = rw (take_while-cons (λ (x : Place). can_be_read x.item) p ps, e) refl

pub reached_past : (g : Goal) (p : Place) (ps : List Place) → can_be_read p.item ≡ true → is_barrier g p ≡ false → is_reached_in g (p ∷ ps) ≡ is_reached_in g ps
unfolding is_reached_in
reached_past g p ps r e = rw (take_while-cons (λ (x : Place). can_be_read x.item) p ps, r, e) refl

pub reached_stop : (g : Goal) (p : Place) (ps : List Place) → can_be_read p.item ≡ true → is_barrier g p ≡ true → is_reached_in g (p ∷ ps) ≡ true
unfolding is_reached_in
reached_stop g p ps r e = rw (take_while-cons (λ (x : Place). can_be_read x.item) p ps, r, e) refl

pub reached_none : (g : Goal) → is_reached_in g [] ≡ false
unfolding is_reached_in
reached_none g = refl
