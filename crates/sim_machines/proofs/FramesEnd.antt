-- Where the frames of a throw end with recorded activations.
use Rattle.std.proofs.Common.{◌≡◌, ℕ, suc, ◌+◌, ◌-◌, ◌<◌, ◌≤◌, ◌==◌, Bool, true, false, cond, List, [], ◌∷◌, ◌++◌, length, take, Option, Some, None, Result, Ok, Err, refl, sym, ap, subst, ◌∙◌, arith}
use Rattle.std.proofs.lemmas.Bool.Decides.{nat_tests}
use Rattle.elf_image.specs.Image.{Image}
use Rattle.eh_bytecode.specs.declared.recipe.Recipe.{Recipe}
use Rattle.eh_bytecode.specs.declared.recipe.RecipeFault.{RecipeFault}
use Rattle.eh_bytecode.specs.Recipe.{recipe}
use Rattle.eh_codes.specs.Cut.{split_codes}
use Rattle.eh_phase.specs.Frames.{site_of, entry_contents_at, end_of_frames, frame_and_outer, frame_of}
use Rattle.eh_phase.specs.Phases.{Frames}
use Rattle.eh_phase.specs.declared.walk.CoveringEntry.{CoveringEntry}
use Rattle.thumb_core.specs.declared.ends.Cause.{Cause}
use Rattle.thumb_core.specs.declared.ends.Cause.TheVariants.{NoHandler, CannotUnwind, LeavesCleanup}
use Rattle.sim_machines.specs.Activations.{Caller, Activation, registers_of, ends_at, if_recipe, activation_frames, outer_frames}
use Rattle.sim_machines.specs.ActivationMachine.{has_recipe, can_unwind}
use Rattle.sim_machines.specs.FrameEnds.{recorded_sites, CanUnwind, AllUnwind, searched_count, last_frame, FramesEndAsTold}

abbrev Ends : Frames → ℕ → Cause → Type 0
Ends fs n why = (length fs.frames ≡ n) × (fs.last ≡ why)

-- one frame more
framed_ends : (further : Frames) (site : ℕ) (r : List ℕ) (c : Option CoveringEntry) (n : ℕ) (why : Cause) → can_unwind c ≡ true → Ends further n why → Ends (activation_frames further site r c) (suc n) why
framed_ends further site r None n why u e = absurd (cc)
framed_ends further site r (Some c) n why u e = go (recipe (split_codes c.codes)) u
  where
    go : (d : Result Recipe RecipeFault) → has_recipe d ≡ true → Ends (frame_and_outer (frame_of site r c) (if_recipe d further)) (suc n) why
    go (Ok done) v = (ap (λ (k : ℕ). suc k) e.0, e.1)
    go (Err fault) v = absurd (cc)

stuck_ends : (further : Frames) (site : ℕ) (r : List ℕ) (c : Option CoveringEntry) → can_unwind c ≡ false → Ends (activation_frames further site r c) (last_frame c) CannotUnwind
stuck_ends further site r None u = (refl, refl)
stuck_ends further site r (Some c) u = go (recipe (split_codes c.codes)) u
  where
    go : (d : Result Recipe RecipeFault) → has_recipe d ≡ false → Ends (frame_and_outer (frame_of site r c) (if_recipe d further)) 1 CannotUnwind
    go (Ok done) v = absurd (cc)
    go (Err fault) v = (refl, refl)

many : (c : Caller) (outer : List Activation) → length (recorded_sites c outer) ≡ length outer
many c [] = refl
many c (a ∷ more) = ap (λ (k : ℕ). suc k) (many a.caller more)

module _ (image : Image) where
  -- the frames of an activation at a site and of those outside it
  abbrev at : Frames → ℕ → List ℕ → Frames
  at further site r = activation_frames further site r (entry_contents_at image site)

  -- ---- after the activation of a cleanup

  cleanup_step : (n k : ℕ) (further : Frames) (site : ℕ) (r sites : List ℕ) → n ≤ k → (AllUnwind image (take (k - n) sites) → Ends further (k - n) LeavesCleanup)
      → AllUnwind image (take (suc k - n) (site ∷ sites)) → Ends (at further site r) (suc k - n) LeavesCleanup
  cleanup_step n k further site r sites h i all =
      let e : suc k - n ≡ suc (k - n) = omega arith in
      let all' = rw e at all in
      rw e (framed_ends further site r (entry_contents_at image site) (k - n) LeavesCleanup all'.0 (i all'.1))

  in_cleanup : (n : ℕ) (c : Caller) (outer : List Activation) → n ≤ length outer → AllUnwind image (take (length outer - n) (recorded_sites c outer))
      → Ends (outer_frames image (Some n) c outer) (length outer - n) LeavesCleanup
  in_cleanup n c [] h all = let z : n ≡ 0 = omega arith in rw z (refl, refl)
  in_cleanup n c (a ∷ more) h all = go (n == suc (length more)) refl (in_cleanup n a.caller more)
    where
      go : (b : Bool) → (n == suc (length more)) ≡ b → (n ≤ length more → AllUnwind image (take (length more - n) (recorded_sites a.caller more)) → Ends (outer_frames image (Some n) a.caller more) (length more - n) LeavesCleanup)
          → Ends (cond b (end_of_frames LeavesCleanup) (at (outer_frames image (Some n) a.caller more) (site_of (registers_of c)) (registers_of c))) (suc (length more) - n) LeavesCleanup
      go true e i = let same : n ≡ suc (length more) = grind (arith, nat_tests) in (omega arith, refl)
      go false e i =
          let below : n ≤ length more = grind (arith, nat_tests) in
          cleanup_step n (length more) (outer_frames image (Some n) a.caller more) (site_of (registers_of c)) (registers_of c) (recorded_sites a.caller more) below (i below) all

  -- ---- after the outermost

  outermost : (c : Caller) (outer : List Activation) → AllUnwind image (recorded_sites c outer) → Ends (outer_frames image None c outer) (length outer) NoHandler
  outermost c [] all = (refl, refl)
  outermost c (a ∷ more) all =
      framed_ends (outer_frames image None a.caller more) (site_of (registers_of c)) (registers_of c) (entry_contents_at image (site_of (registers_of c))) (length more) NoHandler all.0
      (outermost a.caller more all.1)

  -- ---- at one that can't be unwound

  abbrev Stuck : Option ℕ → ℕ → List ℕ → Frames → Type 0
  Stuck place all sites fs =
      (inner others : List ℕ) (site : ℕ) → sites ≡ inner ++ site ∷ others → length inner < searched_count place all → AllUnwind image inner
      → can_unwind (entry_contents_at image site) ≡ false → Ends fs (length inner + last_frame (entry_contents_at image site)) CannotUnwind

  less : (place : Option ℕ) (k all : ℕ) → suc k < searched_count place (suc all) → k < searched_count place all
  less None k all h = omega arith
  less (Some n) k all h = omega arith

  passes : (place : Option ℕ) (k all : ℕ) → k < searched_count place all → ends_at place all ≡ false
  passes None k all h = refl
  passes (Some n) k all h = grind (arith, nat_tests)

  stuck_step : (place : Option ℕ) (all : ℕ) (further : Frames) (x : ℕ) (r sites : List ℕ) → Stuck place all sites further → Stuck place (suc all) (x ∷ sites) (at further x r)
  stuck_step place all further x r sites i [] others site e h u f =
      let same : x ≡ site = cc in
      let p = stuck_ends further site r (entry_contents_at image site) f in
      let q : Ends (at further site r) (0 + last_frame (entry_contents_at image site)) CannotUnwind = (p.0 ∙ omega arith, p.1) in
      subst (λ (y : ℕ). Ends (at further y r) (0 + last_frame (entry_contents_at image site)) CannotUnwind) (sym same) q
  stuck_step place all further x r sites i (y ∷ ys) others site e h u f =
      let same : x ≡ y = cc in
      let rest : sites ≡ ys ++ site ∷ others = cc in
      let p =
      framed_ends further x r (entry_contents_at image x) (length ys + last_frame (entry_contents_at image site)) CannotUnwind
      (subst (λ (z : ℕ). CanUnwind image z) (sym same) u.0) (i ys others site rest (less place (length ys) all h) u.1 f)
      in
      (p.0 ∙ omega arith, p.1)

  nothing_stuck : (place : Option ℕ) (fs : Frames) → Stuck place 0 [] fs
  nothing_stuck place fs [] others site e h u f = absurd (cc)
  nothing_stuck place fs (y ∷ ys) others site e h u f = absurd (cc)

  stuck : (place : Option ℕ) (c : Caller) (outer : List Activation) → Stuck place (length outer) (recorded_sites c outer) (outer_frames image place c outer)
  stuck place c [] inner others site e h u f = nothing_stuck place (outer_frames image place c []) inner others site e h u f
  stuck place c (a ∷ more) inner others site e h u f =
      rw (passes place (length inner) (suc (length more)) h)
      (stuck_step place (length more) (outer_frames image place a.caller more) (site_of (registers_of c)) (registers_of c) (recorded_sites a.caller more) (stuck place a.caller more) inner others site e h u f)

pub frames_end : FramesEndAsTold
frames_end image place site r a outer =
    let sites = recorded_sites a.caller outer in
    let m = many a.caller outer in
    record {
      in_cleanup = λ n e h all.
          let below : n ≤ length outer = omega arith in
          let all' = rw m at all in
          rw (e, m) (cleanup_step image n (length outer) (outer_frames image (Some n) a.caller outer) site r sites below (in_cleanup image n a.caller outer below) all');
      outermost = λ e all.
          rw (e, m) (framed_ends (outer_frames image None a.caller outer) site r (entry_contents_at image site) (length outer) NoHandler all.0 (outermost image a.caller outer all.1));
      stuck = λ inner others at e h u f.
          let h' = rw m at h in
          stuck_step image place (length outer) (outer_frames image place a.caller outer) site r sites (stuck image place a.caller outer) inner others at e h' u f;
    }
