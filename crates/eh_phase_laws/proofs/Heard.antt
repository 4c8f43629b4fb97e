-- What a frame's first descriptor says and enters.
use Rattle.std.proofs.Common.{◌≡◌, ◌⊎◌, ℕ, ◌+◌, ◌%◌, ◌^◌, ◌<◌, ◌≤◌, ◌==◌, Bool, true, false, cond, List, ◌∷◌, Some, None, refl, ap, sym, ◌∙◌, arith, inl, inr}
use Rattle.std.specs.Prelude.{◌&&◌, nat_le, nat_lt, unwrap_or, option_map, Result, Ok, Err}
use Rattle.std.specs.Option.{is_some}
use Rattle.std.proofs.lemmas.Bool.Decides.{nat_tests}
use Rattle.thumb_core.specs.declared.ends.Cause.{Cause}
use Rattle.thumb_core.specs.declared.ends.Cause.TheVariants.{CannotUnwind}
use Rattle.eh_desc.specs.declared.descriptor.Desc.{Desc}
use Rattle.eh_desc.specs.declared.descriptor.DescFault.{DescFault}
use Rattle.eh_phase.specs.declared.verdict.Verdict.{Verdict}
use Rattle.eh_phase.specs.declared.verdict.Verdict.TheVariants as says
use Rattle.eh_phase.specs.declared.phase1.Found.TheVariants as found
use Rattle.eh_phase.specs.declared.phase2.Goal.{Goal}
use Rattle.eh_phase.specs.declared.phase2.Entered.{Entered}
use Rattle.eh_phase.specs.declared.phase2.Entered.TheVariants as enters
use Rattle.eh_phase.specs.Firsts.{first_some, or_else}
use Rattle.eh_phase.specs.Verdict.{Meeting, in_scope, heard, by_match, desc_verdict_by, verdict_of}
use Rattle.eh_phase.specs.Phases.{Frame, verdict_result, frame_result, phase1, phase2, places, enter_item, enter_at_place, enter_by_kind, is_goal, enter_spec, vrs_of}
use Rattle.eh_phase.proofs.First.{first_past, first_here}
use Rattle.eh_phase.proofs.Steps.{parted}
use Rattle.eh_phase_laws.specs.Catches.{frames, IsInside, IsOutside, OutsideIsPassed, CleanupsAreEntered, EverythingStops, EverythingFails, TypesStop, FaultsEnd, IsBarrier, IsElsewhere, BarriersStop}

-- ---- scopes

inside : (site : ℕ) (d : Desc) → IsInside site d → in_scope site d ≡ true
inside site d h =
    let a : nat_le d.start site ≡ true = grind (arith, nat_tests, h.from) in
    let e : (d.start + d.size) % 2 ^ 32 ≡ d.start + d.size = omega (arith, h.low) in
    let b : nat_lt site (d.start + d.size) ≡ true = grind (arith, nat_tests, h.below) in
    rw (a, e, b) refl

and_false : (b : Bool) → b && false ≡ false
and_false true = refl
and_false false = refl

outside : (site : ℕ) (d : Desc) → IsOutside site d → in_scope site d ≡ false
outside site d h = go h.apart
  where
    go : (site < d.start) ⊎ (d.start + d.size ≤ site) → in_scope site d ≡ false
    go (inl low) = let a : nat_le d.start site ≡ false = grind (arith, nat_tests) in ap (λ b. b && nat_lt site ((d.start + d.size) % 2 ^ 32)) a
    go (inr high) =
        let e : (d.start + d.size) % 2 ^ 32 ≡ d.start + d.size = omega (arith, h.low) in
        let b : nat_lt site (d.start + d.size) ≡ false = grind (arith, nat_tests) in
        ap (λ n. nat_le d.start site && nat_lt site n) e ∙ ap (λ c. nat_le d.start site && c) b ∙ and_false (nat_le d.start site)

-- ---- phase 1

pub silent : (m : Meeting) (f : Frame) (i : Result Desc DescFault) (more : List (Result Desc DescFault)) (outer : List Frame) (last : Cause) → heard m f.site i ≡ None
    → phase1 m (frames f (i ∷ more) outer last) ≡ phase1 m (frames f more outer last)
unfolding phase1 first_some verdict_of
silent m f i more outer last e =
    ap (λ o. unwrap_or (or_else (option_map (verdict_result f) o) (first_some (frame_result m) outer)) (found.Terminate last)) (first_past (heard m f.site) i more e)

pub spoken : (m : Meeting) (f : Frame) (i : Result Desc DescFault) (v : Verdict) (more : List (Result Desc DescFault)) (outer : List Frame) (last : Cause) → heard m f.site i ≡ Some v
    → phase1 m (frames f (i ∷ more) outer last) ≡ verdict_result f v
unfolding phase1 first_some verdict_of
spoken m f i v more outer last e =
    ap (λ o. unwrap_or (or_else (option_map (verdict_result f) o) (first_some (frame_result m) outer)) (found.Terminate last)) (first_here (heard m f.site) i more (ap is_some e) ∙ e)

-- ---- phase 2

passed : (g : Goal) (f : Frame) (i : Result Desc DescFault) (more : List (Result Desc DescFault)) (outer : List Frame) (last : Cause) → enter_item g f i ≡ None
    → phase2 g 0 (frames f (i ∷ more) outer last) ≡ phase2 g 0 (frames f more outer last)
unfolding phase2
passed g f i more outer last e =
    ap (λ o. unwrap_or o (enters.Terminate last))
    (parted g 0 (record f { items = i ∷ more }) outer
    ∙ ap (λ o. or_else o (first_some (enter_at_place g) (places 0 outer))) (first_past (enter_item g f) i more e)
    ∙ sym (parted g 0 (record f { items = more }) outer))

entered : (g : Goal) (f : Frame) (i : Result Desc DescFault) (e : Entered) (more : List (Result Desc DescFault)) (outer : List Frame) (last : Cause) → enter_item g f i ≡ Some e
    → phase2 g 0 (frames f (i ∷ more) outer last) ≡ e
unfolding phase2
entered g f i e more outer last is =
    ap (λ o. unwrap_or o (enters.Terminate last))
    (parted g 0 (record f { items = i ∷ more }) outer
    ∙ ap (λ o. or_else o (first_some (enter_at_place g) (places 0 outer))) (first_here (enter_item g f) i more (ap is_some is) ∙ is))

-- ---- out of scope, and cleanups

pub outside_is_passed : OutsideIsPassed
outside_is_passed f d more outer last h = record {
  search = λ m. silent m f (Ok d) more outer last (ap (λ b. cond b (desc_verdict_by m d.at d.kind) None) (outside f.site d h));
  advance = λ g. passed g f (Ok d) more outer last (ap (λ b. cond b (enter_by_kind g f d d.kind) None) (outside f.site d h));
}

pub in_says : (m : Meeting) (f : Frame) (d : Desc) → IsInside f.site d → heard m f.site (Ok d) ≡ desc_verdict_by m d.at d.kind
in_says m f d h = ap (λ b. cond b (desc_verdict_by m d.at d.kind) None) (inside f.site d h)

pub cleanups_are_entered : CleanupsAreEntered
cleanups_are_entered f d pad more outer last h k = record {
  search = λ m. silent m f (Ok d) more outer last (in_says m f d h ∙ ap (desc_verdict_by m d.at) k);
  advance = λ g. entered g f (Ok d) _ more outer last (ap (λ b. cond b (enter_by_kind g f d d.kind) None) (inside f.site d h) ∙ ap (enter_by_kind g f d) k);
}

-- ---- catches

pub everything_stops : EverythingStops
everything_stops m f d pad reference more outer last h k = spoken m f (Ok d) _ more outer last (in_says m f d h ∙ ap (desc_verdict_by m d.at) k)

pub everything_fails : EverythingFails
everything_fails m f d pad reference more outer last h k = spoken m f (Ok d) _ more outer last (in_says m f d h ∙ ap (desc_verdict_by m d.at) k)

pub types_stop : TypesStop
types_stop m f d pad type reference more outer last h k = record {
  object = λ x e. spoken m f (Ok d) _ more outer last (told ∙ ap (by_match d.at) e);
  pointer = λ x e. spoken m f (Ok d) _ more outer last (told ∙ ap (by_match d.at) e);
  silent = λ e. silent m f (Ok d) more outer last (told ∙ ap (by_match d.at) e);
  unreadable = λ a e. spoken m f (Ok d) _ more outer last (told ∙ ap (by_match d.at) e);
}
  where
    told : heard m f.site (Ok d) ≡ by_match d.at (m.matched type)
    told = in_says m f d h ∙ ap (desc_verdict_by m d.at) k

-- ---- faults

pub faults_end : FaultsEnd
faults_end f fault more outer last = record {
  search = λ m. spoken m f (Err fault) (says.Terminate CannotUnwind) more outer last refl;
  advance = λ g. entered g f (Err fault) (enters.Terminate CannotUnwind) more outer last refl;
}

-- ---- the barrier

goal_met : (g : Goal) (f : Frame) (d : Desc) → IsBarrier g f d → is_goal g f d.at ≡ true
goal_met g f d h =
    let a : (f.sp == g.sp) ≡ true = grind (arith, nat_tests, h.sp) in
    let b : (d.at == g.desc) ≡ true = grind (arith, nat_tests, h.at) in
    rw (a, b) refl

goal_missed : (g : Goal) (f : Frame) (d : Desc) → IsElsewhere g f d → is_goal g f d.at ≡ false
goal_missed g f d (inl apart) = let a : (f.sp == g.sp) ≡ false = grind (arith, nat_tests, apart) in ap (λ b. b && (d.at == g.desc)) a
goal_missed g f d (inr apart) =
    let a : (d.at == g.desc) ≡ false = grind (arith, nat_tests, apart) in ap (λ b. (f.sp == g.sp) && b) a ∙ and_false (f.sp == g.sp)

in_enters : (g : Goal) (f : Frame) (d : Desc) → IsInside f.site d → enter_item g f (Ok d) ≡ enter_by_kind g f d d.kind
in_enters g f d h = ap (λ b. cond b (enter_by_kind g f d d.kind) None) (inside f.site d h)

pub barriers_stop : BarriersStop
barriers_stop g f d more outer last h = record {
  catch = λ pad reference type k is. entered g f (Ok d) _ more outer last
      (in_enters g f d h ∙ ap (enter_by_kind g f d) k ∙ ap (λ b. cond b (Some (enters.Catch (vrs_of f) pad)) None) (goal_met g f d is));
  padded = λ types count pad k is. entered g f (Ok d) _ more outer last
      (in_enters g f d h ∙ ap (enter_by_kind g f d) k ∙ ap (λ b. cond b (Some (enter_spec f (Some pad))) None) (goal_met g f d is));
  bare = λ types count k is. entered g f (Ok d) _ more outer last
      (in_enters g f d h ∙ ap (enter_by_kind g f d) k ∙ ap (λ b. cond b (Some (enter_spec f None)) None) (goal_met g f d is));
  other_catch = λ pad reference type k apart. passed g f (Ok d) more outer last
      (in_enters g f d h ∙ ap (enter_by_kind g f d) k ∙ ap (λ b. cond b (Some (enters.Catch (vrs_of f) pad)) None) (goal_missed g f d apart));
  other_spec = λ types count pad k apart. passed g f (Ok d) more outer last
      (in_enters g f d h ∙ ap (enter_by_kind g f d) k ∙ ap (λ b. cond b (Some (enter_spec f pad)) None) (goal_missed g f d apart));
}
