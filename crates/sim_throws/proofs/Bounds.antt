-- A throw's barrier stands at or below the landing sp of the innermost cleanup in progress; and cleanups in progress are kept after a landing
-- that is there too.
use Rattle.std.proofs.Common.{ℕ, ◌≤◌, List, [], ◌∷◌, Option, Some, None, ◌≡◌, ◌==◌, inl, inr, Bool, true, false, cond, length, arith, ◌++◌, sym, subst, ◌∙◌, ◌<◌, ◌+◌, ◌*◌, refl}
use Rattle.std.specs.Prelude.{Result, Ok, Err, slice_index}
use Rattle.std.proofs.lemmas.Bool.Decides.{nat_tests}
use Rattle.std.proofs.lemmas.Bool.{cases_lt}
use Rattle.eh_phase.specs.Phases.{Frame, Frames, verdict_result, phase1}
use Rattle.eh_bytecode.specs.Recipe.{recipe}
use Rattle.eh_bytecode.specs.declared.recipe.Recipe.{Recipe}
use Rattle.eh_bytecode.specs.declared.recipe.RecipeFault.{RecipeFault}
use Rattle.eh_codes.specs.Cut.{split_codes}
use Rattle.eh_phase.specs.Frames.{frame_and_outer, frame_of, entry_contents_at, site_of, end_of_frames}
use Rattle.eh_phase.specs.declared.walk.CoveringEntry.{CoveringEntry}
use Rattle.thumb_core.specs.declared.regs.TheConstants.{SP}
use Rattle.sim_machines.specs.Activations.{if_recipe, activation_frames, Activation, registers_of, ends_at, outer_frames, Recorded, first_place, frames_at, InProgress, cleanups_in}
use Rattle.eh_bus.specs.Segment.{Segment}
use Rattle.eh_cxa.specs.Lists.{Cleanup, slots}
use Rattle.eh_phase.specs.declared.phase2.Goal.{Goal}
use Rattle.thumb_core.specs.declared.ends.Cause.TheVariants.{NoHandler, LeavesCleanup}
use Rattle.sim_machines.specs.frame_check.Accepts.{Accepted}
use Rattle.eh_phase.specs.Verdict.{Meeting}
use Rattle.eh_phase.specs.declared.phase1.Barrier.{Barrier}
use Rattle.eh_phase.specs.declared.phase1.Found.{Found}
use Rattle.eh_phase.specs.declared.verdict.Verdict.{Verdict}
use Rattle.eh_phase.proofs.Speaks.{innermost_decides}
use Rattle.eh_cxa.specs.Words.{Write, word, set_slot_word, set_slot_words}
use Rattle.eh_cxa.specs.declared.layout.TheConstants.{SLOT_WORDS}
use Rattle.eh_bus.specs.Memory.{Memory, load_number}
use Rattle.eh_bus.specs.declared.map.TheConstants.{POOL_START, SLOT_SIZE, STACK_START, STACK_END}
use Rattle.eh_bus.proofs.PartLaws.{host_other}
use Rattle.eh_bus.specs.Lists.{Has}
use Rattle.eh_phase.specs.declared.phase1.Found.TheVariants as found
use Rattle.eh_phase.specs.declared.verdict.Verdict.TheVariants as says
use Rattle.sim_frames.specs.sim_relation.Holds.{IsWhole}
use Rattle.sim_frames.specs.sim_relation.Chain.{Chain}
use Rattle.sim_frames.specs.sim_relation.Cleanups.{IsHeld, goal_at, IsWithin, AreInProgress}
use Rattle.sim_frames.proofs.Outwards.{at_sp}
use Rattle.sim_frames.proofs.sim_relation.Written.{landings_rise}
use Rattle.sim_throws.proofs.After.{held_there, held_outside}
use Rattle.sim_frames.proofs.Located.{Rest}

-- ---- frames up to a cleanup's activation

abbrev pub AllAt : ℕ → List Frame → Type 0
AllAt top [] = Unit {0}
AllAt top (f ∷ more) = (f.sp ≤ top) × AllAt top more

at_framed : (top : ℕ) (further : Frames) (site : ℕ) (r : List ℕ) (o : Option CoveringEntry) → slice_index r SP ≤ top → AllAt top further.frames → AllAt top (activation_frames further site r o).frames
at_framed top further site r None l h = tt
at_framed top further site r (Some c) l h = go (recipe (split_codes c.codes))
  where
    go : (o : Result Recipe RecipeFault) → AllAt top (frame_and_outer (frame_of site r c) (if_recipe o further)).frames
    go (Ok done) = (l, h)
    go (Err why) = (l, tt)

at_outside : (x : Accepted) (segments : List Segment) (home : ℕ × ℕ) (g : Goal) (n : ℕ) (c : Cleanup) (a : Activation) (acts : List Activation) → IsWhole a.caller → Chain x segments home a.caller acts
    → IsHeld x segments g n c (a ∷ acts) → AllAt c.sp (outer_frames x.image (Some n) a.caller acts).frames
at_outside x segments home g n c a [] whole ch held = go (ends_at (Some n) 0)
  where
    go : (b : Bool) → AllAt c.sp (cond b (end_of_frames LeavesCleanup) (end_of_frames NoHandler)).frames
    go true = tt
    go false = tt
at_outside x segments home g n c a (b ∷ more) whole ch (inl here) = go (n == length (b ∷ more)) (let e = here.0 in let t : (n == length (b ∷ more)) ≡ true = grind (arith, nat_tests) in t)
  where
    go : (t : Bool) → t ≡ true
        → AllAt c.sp (cond t (end_of_frames LeavesCleanup) (activation_frames (outer_frames x.image (Some n) b.caller more) (site_of (registers_of a.caller)) (registers_of a.caller) (entry_contents_at x.image (site_of (registers_of a.caller))))).frames
    go true e = tt
    go false e = absurd cc
at_outside x segments home g n c a (b ∷ more) whole ch (inr later) = go (n == length (b ∷ more)) (at_outside x segments home g n c b more ch.0.whole ch.1 later.1)
  where
    go : (t : Bool) → AllAt c.sp (outer_frames x.image (Some n) b.caller more).frames
        → AllAt c.sp (cond t (end_of_frames LeavesCleanup) (activation_frames (outer_frames x.image (Some n) b.caller more) (site_of (registers_of a.caller)) (registers_of a.caller) (entry_contents_at x.image (site_of (registers_of a.caller))))).frames
    go true h = tt
    go false h =
        at_framed c.sp (outer_frames x.image (Some n) b.caller more) (site_of (registers_of a.caller)) (registers_of a.caller) (entry_contents_at x.image (site_of (registers_of a.caller)))
        (let e = at_sp a.caller whole.count in let l = later.0 in omega (arith, e, l)) h

at_inner : (top : ℕ) (inner : List Frame) (f : Frame) (outer : List Frame) → AllAt top (inner ++ f ∷ outer) → f.sp ≤ top
at_inner top [] f outer h = h.0
at_inner top (i ∷ inner) f outer h = at_inner top inner f outer h.1

-- what phase 1 finds stands in one of the frames
pub found_at : (top : ℕ) (m : Meeting) (fs : Frames) (b : Barrier) → AllAt top fs.frames → phase1 m fs ≡ found.Barrier b → b.sp ≤ top
found_at top m fs b all e = elim (innermost_decides m fs) [
  | inl silent ↦ absurd (let w : ◌≡◌ {A = Found} (found.Terminate fs.last) (found.Barrier b) = sym silent.1 ∙ e in cc)
  | inr d ↦ by_verdict d.frame d.verdict (at_inner top d.inner d.frame d.outer (subst (AllAt top) d.parts all)) (sym d.found ∙ e)
]
  where
    by_verdict : (f : Frame) (v : Verdict) → f.sp ≤ top → verdict_result f v ≡ found.Barrier b → b.sp ≤ top
    by_verdict f (says.Barrier desc hit) l e = let same : f.sp ≡ b.sp = cc in omega (arith, same, l)
    by_verdict f (says.ObjectRead a) l e = absurd cc
    by_verdict f (says.Terminate why) l e = absurd cc

-- So a throw's barrier stands at or below the landing sp of the innermost cleanup in progress.
pub barrier_within : (x : Accepted) (s : Recorded) (site : ℕ) (r : List ℕ) (m : Meeting) (b : Barrier) → IsWhole s.first.caller → Chain x s.segments s.home s.first.caller s.outer → (cleanups : List InProgress)
    → AreInProgress x s (slice_index r SP) cleanups → phase1 m (frames_at x.image (first_place cleanups) site r s.first s.outer) ≡ found.Barrier b → IsWithin b.sp (cleanups_in cleanups)
barrier_within x s site r m b whole ch [] p e = tt
barrier_within x s site r m b whole ch (d ∷ more) p e =
    let c = d.cleanup in
    let n = d.place in
    found_at c.sp m (frames_at x.image (Some n) site r s.first s.outer) b
    (at_framed c.sp (outer_frames x.image (Some n) s.first.caller s.outer) site r (entry_contents_at x.image site) p.0 (at_outside x s.segments s.home (goal_at s c.slot) n c s.first s.outer whole ch p.1)) e

-- ---- words of other slots

abbrev pub AreOf : ℕ → List Write → Type 0
AreOf slot [] = Unit {0}
AreOf slot (w ∷ more) = (w.slot ≡ slot) × (w.place < SLOT_WORDS) × AreOf slot more

put_other : (m : Memory) (s t k j v : ℕ) → (s ≡ t → ⊥) → k < SLOT_WORDS → j < SLOT_WORDS → word (set_slot_word m s k v) t j ≡ word m t j
unfolding word set_slot_word
put_other m s t k j v differ l h = elim (cases_lt s t) [
  | inl below ↦ host_other m (POOL_START + SLOT_SIZE * s + 4 * k) v (POOL_START + SLOT_SIZE * t + 4 * j) (inl (omega (arith, below, l, h)))
  | inr above ↦ elim (cases_lt t s) [
    | inl less ↦ host_other m (POOL_START + SLOT_SIZE * s + 4 * k) v (POOL_START + SLOT_SIZE * t + 4 * j) (inr (omega (arith, less, l, h)))
    | inr most ↦ absurd (differ (omega (arith, above, most)))
  ]
]

pub puts_other : (ws : List Write) (m : Memory) (slot t j : ℕ) → AreOf slot ws → (t ≡ slot → ⊥) → j < SLOT_WORDS → word (set_slot_words ws m) t j ≡ word m t j
puts_other [] m slot t j h differ l = refl
puts_other (w ∷ more) m slot t j h differ l =
    puts_other more (set_slot_word m w.slot w.place w.value) slot t j h.2 differ l ∙ put_other m w.slot t w.place j w.value (λ e. differ (sym e ∙ h.0)) h.1 l

-- ---- cleanups after a landing

module _ (x : Accepted) (s t : Recorded) (sp : ℕ) (split_codes : List Activation) (a : Activation) (more : List Activation) (all : s.first ∷ s.outer ≡ split_codes ++ a ∷ more) (first : t.first ≡ a) (outer : t.outer ≡ more)
    (rest : Rest s.home.1 sp split_codes a more) (above : STACK_START ≤ sp) (roof : s.home.1 ≤ STACK_END) (stack_same : (g : ℕ) → STACK_START ≤ g → g + 4 ≤ STACK_END → load_number 4 t.segments g ≡ load_number 4 s.segments g) where
  held_one : (g h : Goal) (n : ℕ) (c : Cleanup) → h ≡ g → sp ≤ c.sp → IsHeld x s.segments g n c (s.first ∷ s.outer) → IsHeld x t.segments h n c (t.first ∷ t.outer)
  held_one g h n c same l held =
      subst (λ (k : Goal). IsHeld x t.segments k n c (t.first ∷ t.outer)) (sym same)
      (subst (λ (b : Activation). IsHeld x t.segments g n c (b ∷ t.outer)) (sym first)
      (subst (λ (bs : List Activation). IsHeld x t.segments g n c (a ∷ bs)) (sym outer)
      (held_there s.segments t.segments stack_same x g n c s.home.1 sp (a ∷ more) above roof rest.rise
      (held_outside x s.segments g n c sp split_codes a more l rest.under (subst (IsHeld x s.segments g n c) all held)))))

  pub still_in_progress : (old low : ℕ) (cleanups : List InProgress) → IsWithin sp (cleanups_in cleanups) → IsWithin low (cleanups_in cleanups)
      → ((slot : ℕ) → Has (slots (cleanups_in cleanups)) slot → goal_at t slot ≡ goal_at s slot) → AreInProgress x s old cleanups → AreInProgress x t low cleanups
  still_in_progress old low [] w l goals p = tt
  still_in_progress old low (d ∷ later) w l goals p = (
    l,
    held_one (goal_at s d.cleanup.slot) (goal_at t d.cleanup.slot) d.place d.cleanup (goals d.cleanup.slot (inl refl)) w p.1,
    subst (λ (g : Goal). IsWithin g.sp (cleanups_in later)) (sym (goals d.cleanup.slot (inl refl))) p.2,
    still_in_progress d.cleanup.sp d.cleanup.sp later (further later p.3) (landings_rise x s d.cleanup.sp later p.3) (λ slot h. goals slot (inr h)) p.3,
  )
    where
      further : (later : List InProgress) → AreInProgress x s d.cleanup.sp later → IsWithin sp (cleanups_in later)
      further [] p = tt
      further (c ∷ later) p = let l = p.0 in omega (arith, l, w)
