-- What is due of a cleanup goes by what activations record of their callers: it stays where those from the cleanup's activation outwards do.
use Rattle.std.proofs.Common.{◌≡◌, ℕ, ◌-◌, zero, suc, ◌<◌, ◌==◌, ◌⊎◌, inl, inr, Bool, true, false, cond, List, [], ◌∷◌, drop, length, None, refl, sym, ◌∙◌, ap, subst, arith, length-drop}
use Rattle.std.proofs.lemmas.Bool.{eqb-true}
use Rattle.std.proofs.lemmas.Bool.Decides.{nat_tests}
use Rattle.std.proofs.lemmas.List.{drop-map}
use Rattle.eh_bus.specs.Lists.{Has}
use Rattle.eh_bus.specs.Segment.{Segment}
use Rattle.eh_cxa.specs.Lists.{Cleanup, slots}
use Rattle.elf_image.specs.Image.{Image}
use Rattle.eh_phase.specs.Cleanups.{remaining_landings}
use Rattle.eh_phase.specs.Frames.{entry_contents_at, site_of}
use Rattle.eh_phase.specs.Phases.{Frame, Frames}
use Rattle.eh_phase.specs.declared.phase2.Goal.{Goal}
use Rattle.frame_check.specs.Accepts.{Accepted}
use Rattle.sim_machines.specs.Activations.{Activation, Caller, Recorded, registers_of, activation_frames, outer_frames, frames_at, InProgress, cleanups_in}
use Rattle.sim_machines.specs.ActivationLaws.{callers}
use Rattle.sim_relation.specs.Cleanups.{goal_at, by_sp, IsHeld, AreInProgress}
use Rattle.sim_landings.specs.Landings.{pads}
use Rattle.sim_landings.specs.Due.{kept_frames, due_of, due_among}

-- ---- frames by callers

outside_same : (image : Image) (c : Caller) (xs ys : List Activation) → callers xs ≡ callers ys → outer_frames image None c xs ≡ outer_frames image None c ys
outside_same image c [] [] e = refl
outside_same image c [] (y ∷ ys) e = absurd cc
outside_same image c (x ∷ xs) [] e = absurd cc
outside_same image c (x ∷ xs) (y ∷ ys) e =
    let one : x.caller ≡ y.caller = cc in
    let rest : callers xs ≡ callers ys = cc in
    ap (λ (further : Frames). activation_frames further (site_of (registers_of c)) (registers_of c) (entry_contents_at image (site_of (registers_of c))))
    (outside_same image x.caller xs ys rest ∙ ap (λ (d : Caller). outer_frames image None d ys) one)

frames_same : (image : Image) (site : ℕ) (r : List ℕ) (a b : Activation) (xs ys : List Activation) → a.caller ≡ b.caller → callers xs ≡ callers ys
    → frames_at image None site r a xs ≡ frames_at image None site r b ys
frames_same image site r a b xs ys one rest =
    ap (λ (further : Frames). activation_frames further site r (entry_contents_at image site)) (outside_same image a.caller xs ys rest ∙ ap (λ (d : Caller). outer_frames image None d ys) one)

pub same_length : (xs ys : List Activation) → callers xs ≡ callers ys → length xs ≡ length ys
same_length [] [] e = refl
same_length [] (y ∷ ys) e = absurd cc
same_length (x ∷ xs) [] e = absurd cc
same_length (x ∷ xs) (y ∷ ys) e = ap suc (same_length xs ys (let rest : callers xs ≡ callers ys = cc in rest))

either : (b : Bool) (x x' y y' : List Frame) → x ≡ x' → y ≡ y' → cond b x y ≡ cond b x' y'
either true x x' y y' p q = p
either false x x' y y' p q = q

module _ (image : Image) (n : ℕ) (c : Cleanup) where
  pub kept_same : (xs ys : List Activation) → callers xs ≡ callers ys → kept_frames image n c xs ≡ kept_frames image n c ys
  kept_same [] [] e = refl
  kept_same [] (y ∷ ys) e = absurd cc
  kept_same (x ∷ xs) [] e = absurd cc
  kept_same (x ∷ xs) (y ∷ ys) e =
      let one : x.caller ≡ y.caller = cc in
      let rest : callers xs ≡ callers ys = cc in
      ap (λ (k : ℕ). cond (k == n) (frames_at image None c.site (by_sp c.sp) x xs).frames (kept_frames image n c xs)) (same_length xs ys rest)
      ∙ either (length ys == n) _ _ _ _ (ap (λ (fs : Frames). fs.frames) (frames_same image c.site (by_sp c.sp) x y xs ys one rest)) (kept_same xs ys rest)

  -- an activation further in plays no part
  pub kept_longer : (a : Activation) (more : List Activation) → n < length more → kept_frames image n c (a ∷ more) ≡ kept_frames image n c more
  kept_longer a more h =
      let other : (length more == n) ≡ false = grind (arith, nat_tests) in
      ap (λ (b : Bool). cond b (frames_at image None c.site (by_sp c.sp) a more).frames (kept_frames image n c more)) other

  pub kept_here : (a : Activation) (more : List Activation) → length more ≡ n → kept_frames image n c (a ∷ more) ≡ (frames_at image None c.site (by_sp c.sp) a more).frames
  kept_here a more h =
      let same : (length more == n) ≡ true = grind (arith, nat_tests) in
      ap (λ (b : Bool). cond b (frames_at image None c.site (by_sp c.sp) a more).frames (kept_frames image n c more)) same

  kept_drop : (j : ℕ) (xs : List Activation) → n < length (drop j xs) → kept_frames image n c (drop j xs) ≡ kept_frames image n c xs
  kept_drop zero xs h = refl
  kept_drop (suc j) [] h = refl
  kept_drop (suc j) (x ∷ xs) h =
      let few : length (drop j xs) ≡ length xs - j = length-drop j xs in
      kept_drop j xs h ∙ sym (kept_longer x xs (omega (arith, h, few)))

-- ---- what events do to activations

-- some are cut, or none; or one is put in front
abbrev pub Moved : List Activation → List Activation → Type 0
Moved old new = ((j : ℕ) × (callers new ≡ drop j (callers old))) ⊎ ((a : Activation) × (more : List Activation) × (new ≡ a ∷ more) × (callers more ≡ callers old))

pub moved_kept : (image : Image) (n : ℕ) (c : Cleanup) (old new : List Activation) → Moved old new → n < length old → n < length new → kept_frames image n c new ≡ kept_frames image n c old
moved_kept image n c old new (inl (j, e)) h i =
    let same : callers new ≡ callers (drop j old) = e ∙ drop-map (λ (a : Activation). a.caller) j old in
    let long : length new ≡ length (drop j old) = same_length new (drop j old) same in
    kept_same image n c new (drop j old) same ∙ kept_drop image n c j old (omega (arith, i, long))
moved_kept image n c old new (inr (a, more, is, e)) h i =
    let long : length more ≡ length old = same_length more old e in
    ap (kept_frames image n c) is ∙ kept_longer image n c a more (omega (arith, h, long)) ∙ kept_same image n c more old e

pub held_length : (x : Accepted) (segments : List Segment) (g : Goal) (n : ℕ) (c : Cleanup) (acts : List Activation) → IsHeld x segments g n c acts → n < length acts
held_length x segments g n c [] h = absurd h
held_length x segments g n c (a ∷ more) (inl here) = let e = here.0 in omega (arith, e)
held_length x segments g n c (a ∷ more) (inr later) = let w = held_length x segments g n c more later.1 in omega (arith, w)

-- ---- what is due

module _ (x : Accepted) (image : Image) (s t : Recorded) (slot : ℕ) (moved : Moved (s.first ∷ s.outer) (t.first ∷ t.outer)) where
  pub among_kept : (low high : ℕ) (cleanups : List InProgress) → (Has (slots (cleanups_in cleanups)) slot → goal_at t slot ≡ goal_at s slot) → AreInProgress x s low cleanups
      → AreInProgress x t high cleanups → due_among image t slot cleanups ≡ due_among image s slot cleanups
  among_kept low high [] goal p q = refl
  among_kept low high (d ∷ more) goal p q = go (d.cleanup.slot == slot) refl (among_kept d.cleanup.sp d.cleanup.sp more (λ h. goal (inr h)) p.3 q.3)
    where
      own : d.cleanup.slot ≡ slot → due_of image t d.place d.cleanup ≡ due_of image s d.place d.cleanup
      own e =
          let same : goal_at t d.cleanup.slot ≡ goal_at s d.cleanup.slot = subst (λ (k : ℕ). goal_at t k ≡ goal_at s k) (sym e) (goal (inl e)) in
          ap (λ (g : Goal). pads (remaining_landings g d.cleanup.next (kept_frames image d.place d.cleanup (t.first ∷ t.outer)))) same
          ∙ ap (λ (fs : List Frame). pads (remaining_landings (goal_at s d.cleanup.slot) d.cleanup.next fs))
          (moved_kept image d.place d.cleanup (s.first ∷ s.outer) (t.first ∷ t.outer) moved (held_length x s.segments (goal_at s d.cleanup.slot) d.place d.cleanup (s.first ∷ s.outer) p.1) (held_length x t.segments (goal_at t d.cleanup.slot) d.place d.cleanup (t.first ∷ t.outer) q.1))

      go : (b : Bool) → (d.cleanup.slot == slot) ≡ b → due_among image t slot more ≡ due_among image s slot more → cond b (due_of image t d.place d.cleanup) (due_among image t slot more) ≡ cond b (due_of image s d.place d.cleanup) (due_among image s slot more)
      go true e w = own (eqb-true d.cleanup.slot slot e)
      go false e w = w

-- none is due of an exception without a cleanup in progress
pub none_due : (image : Image) (s : Recorded) (slot : ℕ) (cleanups : List InProgress) → (Has (slots (cleanups_in cleanups)) slot → ⊥) → due_among image s slot cleanups ≡ []
none_due image s slot [] h = refl
none_due image s slot (c ∷ more) h = go (c.cleanup.slot == slot) refl (none_due image s slot more (λ k. h (inr k)))
  where
    go : (b : Bool) → (c.cleanup.slot == slot) ≡ b → due_among image s slot more ≡ [] → cond b (due_of image s c.place c.cleanup) (due_among image s slot more) ≡ []
    go true e w = absurd (h (inl (eqb-true c.cleanup.slot slot e)))
    go false e w = w
