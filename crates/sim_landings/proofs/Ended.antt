-- The end of a cleanup that goes on: it enters what is due next of the cleanup's exception, and leaves what is due of every other.
use Rattle.std.proofs.Common.{◌≡◌, ℕ, ◌<◌, ◌==◌, ◌&&◌, ◌⊎◌, inl, inr, Bool, true, false, cond, List, [], ◌∷◌, length, Some, None, refl, sym, ap, subst, ◌∙◌, arith}
use Rattle.std.specs.Prelude.{slice_index, drop}
use Rattle.std.proofs.lemmas.Bool.{eqb-true}
use Rattle.std.proofs.lemmas.Bool.Decides.{nat_tests}
use Rattle.eh_bus.specs.Lists.{Has}
use Rattle.eh_cxa.specs.Lists.{Cleanup, Once, slots}
use Rattle.eh_cxa.specs.Stands as cxa
use Rattle.eh_cxa.specs.Throw.{barrier_of}
use Rattle.eh_cxa.specs.Words.{word, block}
use Rattle.eh_cxa.specs.declared.layout.TheConstants.{SLOTS, NEXT_CLEANUP}
use Rattle.eh_cxa.proofs.Pools.{slot_small}
use Rattle.eh_gates.specs.State.{Tables}
use Rattle.eh_gates.specs.declared.state.Turned.TheVariants.{Went, Ended}
use Rattle.eh_phase.specs.Cleanups.{remaining_landings, is_reached}
use Rattle.eh_phase.specs.Frames.{entry_contents_at}
use Rattle.eh_phase.specs.Laws.{Lands}
use Rattle.eh_phase.specs.Phases.{Frame, Frames, phase2}
use Rattle.eh_phase.specs.declared.phase2.Entered.{Entered}
use Rattle.eh_phase.specs.declared.phase2.Entered.TheVariants as enters
use Rattle.thumb_core.specs.declared.ends.Cause.{Cause}
use Rattle.thumb_core.specs.declared.ends.Cause.TheVariants as cause
use Rattle.thumb_core.specs.declared.ends.End.{End}
use Rattle.thumb_core.specs.declared.ends.End.TheVariants as the_end
use Rattle.thumb_core.specs.declared.ends.TrapKind.TheVariants as kind
use Rattle.thumb_core.specs.declared.regs.TheConstants.{SP}
use Rattle.frame_check.specs.Accepts.{Accepted}
use Rattle.sim_machines.specs.Activations.{Activation, Recorded, reg_in, memory_of, heads, registers_of, frames_at, lists_of, cleanups_in, InProgress}
use Rattle.sim_machines.specs.ActivationMachine as machine
use Rattle.sim_relation.specs.Chain.{StandsAtCall, Chain}
use Rattle.sim_relation.specs.Cleanups.{goal_at, by_sp, IsHeld, IsEntered, AreInProgress}
use Rattle.sim_relation.specs.Stands.{Keeps, IsProgram}
use Rattle.sim_frames.specs.Landings.{Fit}
use Rattle.sim_frames.proofs.Landing.{fit_frames}
use Rattle.sim_frames.proofs.Outwards.{at_sp}
use Rattle.sim_frames.proofs.ReachBySp.{reached_by_sp}
use Rattle.sim_landings.specs.Landings.{stands_at, pads, AreFirst}
use Rattle.sim_landings.specs.Due.{kept_frames, due_of, due_among, left_due}
use Rattle.sim_landings.proofs.Beside.{same_goal}
use Rattle.sim_landings.proofs.FlightDue.{reached_lands, is_landed, flight_due, not_went}
use Rattle.sim_landings.proofs.Kept.{kept_longer, kept_here, held_length}
use Rattle.sim_landings.proofs.Landed.{IsLanded}
use Rattle.sim_landings.proofs.Others.{after_other, others_kept}
use Rattle.sim_landings.proofs.PadsBySp.{pads_by_sp}
use Rattle.sim_landings.proofs.Walked.{IsTrap}

-- the innermost cleanup ends in the activation that its own one called, and phase 2 goes on
pub record GoesOnFrom (g : Tables) (s : Recorded) (o : machine.Outcome) : Type 0 where
  pub ends : InProgress
  pub others : List InProgress
  pub cleanups : s.cleanups ≡ ends ∷ others
  pub first : Activation
  pub more : List Activation
  pub outer : s.outer ≡ first ∷ more
  pub sp : s.first.caller.sp ≡ ends.cleanup.sp
  pub many : length more ≡ ends.place
  pub goes : machine.continue_flight g (record s { cleanups = others }) ends.cleanup s.first.caller first more (barrier_of (word (memory_of s)) (Some ends.cleanup.slot)) ≡ o

-- or the gate traps
abbrev pub EndsSo : Tables → Recorded → machine.Outcome → Type 0
EndsSo g s o = GoesOnFrom g s o ⊎ ((end : End) × (o ≡ (Ended end, s)) × IsTrap end)

module _ (g : Tables) (s : Recorded) where
  elsewhere : (value : ℕ) → EndsSo g s (Ended (the_end.Trap kind.CleanupElsewhere value s.regs.pc), s)
  elsewhere value = inr (the_end.Trap kind.CleanupElsewhere value s.regs.pc, refl, λ why e. (let w = e in absurd cc))

  module _ (c : InProgress) (others : List InProgress) (cleanups : s.cleanups ≡ c ∷ others) where
    by_place : (a : Activation) (outer : List Activation) → s.outer ≡ a ∷ outer → EndsSo g s (machine.resumes_in g s c others (a ∷ outer))
    by_place a outer is = go (s.first.caller.sp == c.cleanup.sp) refl (length outer == c.place) refl
      where
        go : (p : Bool) → (s.first.caller.sp == c.cleanup.sp) ≡ p → (q : Bool) → (length outer == c.place) ≡ q
            → EndsSo g s (cond (p && q) (machine.continue_flight g (record s { cleanups = others }) c.cleanup s.first.caller a outer (barrier_of (word (memory_of s)) (Some c.cleanup.slot)))
            (Ended (the_end.Trap kind.CleanupElsewhere s.first.caller.sp s.regs.pc), s))
        go true e true f = inl (record {
          ends = c;
          others = others;
          cleanups = cleanups;
          first = a;
          more = outer;
          outer = is;
          sp = eqb-true s.first.caller.sp c.cleanup.sp e;
          many = eqb-true (length outer) c.place f;
          goes = refl;
        })
        go true e false f = elsewhere s.first.caller.sp
        go false e q f = elsewhere s.first.caller.sp

    by_acts : (acts : List Activation) → s.outer ≡ acts → EndsSo g s (machine.resumes_in g s c others acts)
    by_acts [] is = elsewhere s.first.caller.sp
    by_acts (a ∷ outer) is = by_place a outer is

    by_unwind : (b : Bool) → EndsSo g s (cond b (machine.resumes_in g s c others s.outer) (Ended (the_end.Trap kind.CleanupElsewhere 0 s.regs.pc), s))
    by_unwind true = by_acts s.outer refl
    by_unwind false = elsewhere 0

  by_cleanups : (cs : List InProgress) → s.cleanups ≡ cs → EndsSo g s (machine.resume_outcome g s cs)
  by_cleanups [] e = inr (the_end.Trap kind.NoCleanup 0 s.regs.pc, refl, λ why e. (let w = e in absurd cc))
  by_cleanups (c ∷ others) e = by_unwind c others e (machine.can_unwind (entry_contents_at g.image s.regs.pc))

  pub ends_so : EndsSo g s (machine.end_cleanup_gate g s)
  ends_so = by_cleanups s.cleanups refl

-- ---- phase 2 goes on

module _ (x : Accepted) (is : IsProgram x) (s : Recorded) (k : Keeps x s) (g : Tables) (image : g.image ≡ x.image) (o : machine.Outcome) (r : GoesOnFrom g s o) where
  abbrev c : Cleanup
  c = r.ends.cleanup

  in_progress : AreInProgress x s (reg_in s SP) (r.ends ∷ r.others)
  in_progress = subst (AreInProgress x s (reg_in s SP)) r.cleanups k.cleanups

  listed : cleanups_in s.cleanups ≡ r.ends.cleanup ∷ cleanups_in r.others
  listed = ap cleanups_in r.cleanups

  -- it is the cleanup's own
  entered : IsEntered x s.segments (goal_at s r.ends.cleanup.slot) r.ends.cleanup r.first r.more
  entered = go (subst (λ (xs : List Activation). IsHeld x s.segments (goal_at s r.ends.cleanup.slot) r.ends.place r.ends.cleanup (s.first ∷ xs)) r.outer in_progress.1)
    where
      at : IsHeld x s.segments (goal_at s r.ends.cleanup.slot) r.ends.place r.ends.cleanup (r.first ∷ r.more) → IsEntered x s.segments (goal_at s r.ends.cleanup.slot) r.ends.cleanup r.first r.more
      at (inl here) = here.1
      at (inr beyond) = absurd (let e = r.many in let w = held_length x s.segments (goal_at s r.ends.cleanup.slot) r.ends.place r.ends.cleanup r.more beyond.1 in omega (arith, e, w))

      go : IsHeld x s.segments (goal_at s r.ends.cleanup.slot) r.ends.place r.ends.cleanup (s.first ∷ (r.first ∷ r.more)) → IsEntered x s.segments (goal_at s r.ends.cleanup.slot) r.ends.cleanup r.first r.more
      go (inl here) = absurd (let e = r.many in let w = here.0 in omega (arith, e, w))
      go (inr beyond) = at beyond.1

  links : StandsAtCall x s.segments s.first.caller r.first × Chain x s.segments s.home r.first.caller r.more
  links = let ch = subst (Chain x s.segments s.home s.first.caller) r.outer k.chain in (ch.0, ch.1)

  abbrev fs : Frames
  fs = frames_at x.image None r.ends.cleanup.site (registers_of s.first.caller) r.first r.more

  sp_is : slice_index (registers_of s.first.caller) SP ≡ r.ends.cleanup.sp
  sp_is = at_sp s.first.caller k.whole.count ∙ r.sp

  fit : Fit (slice_index (registers_of s.first.caller) SP) (frames_at x.image None r.ends.cleanup.site (registers_of s.first.caller) r.first r.more).frames (r.first ∷ r.more)
  fit = fit_frames x s.segments s.home None r.ends.cleanup.site (registers_of s.first.caller) r.first r.more links.0.whole links.1

  reached : is_reached (goal_at s r.ends.cleanup.slot) r.ends.cleanup.next (frames_at x.image None r.ends.cleanup.site (registers_of s.first.caller) r.first r.more).frames ≡ true
  reached = reached_by_sp (goal_at s r.ends.cleanup.slot) r.ends.cleanup.next x.image r.ends.cleanup.site (registers_of s.first.caller) r.ends.cleanup.sp r.first r.more sp_is ∙ entered.reach

  small : r.ends.cleanup.slot < SLOTS
  small =
      let chain = subst (λ (cs : List Cleanup). cxa.Chain (λ t. word (memory_of s) t NEXT_CLEANUP) (heads (lists_of s)).cleanup (slots cs)) listed k.corresponds.stands.shows.cleanups in
      slot_small (heads (lists_of s)).cleanup r.ends.cleanup.slot chain.0

  idle : Has (slots (cleanups_in r.others)) r.ends.cleanup.slot → ⊥
  idle = (subst (λ (cs : List Cleanup). Once (slots cs)) listed k.corresponds.stands.valid.cleanups_once).0

  abbrev ended : Recorded
  ended = record s { cleanups = r.others }

  suffix : r.first ∷ r.more ≡ drop 1 (ended.first ∷ ended.outer)
  suffix = sym r.outer

  abbrev object : ℕ
  object = (barrier_of (word (memory_of s)) (Some r.ends.cleanup.slot)).object

  went : machine.advances (record s { cleanups = r.others }) (r.first ∷ r.more) (block r.ends.cleanup.slot) (barrier_of (word (memory_of s)) (Some r.ends.cleanup.slot)).object (goal_at s r.ends.cleanup.slot) r.ends.cleanup.next
      (frames_at x.image None r.ends.cleanup.site (registers_of s.first.caller) r.first r.more) ≡ o
  went =
      ap (λ (i : _). machine.advances (record s { cleanups = r.others }) (r.first ∷ r.more) (block r.ends.cleanup.slot) (barrier_of (word (memory_of s)) (Some r.ends.cleanup.slot)).object (goal_at s r.ends.cleanup.slot) r.ends.cleanup.next
      (frames_at i None r.ends.cleanup.site (registers_of s.first.caller) r.first r.more)) (sym image)
      ∙ r.goes

  pub ends_enter : Lands (phase2 (goal_at s r.ends.cleanup.slot) r.ends.cleanup.next (frames_at x.image None r.ends.cleanup.site (registers_of s.first.caller) r.first r.more))
  ends_enter = reached_lands (goal_at s r.ends.cleanup.slot) r.ends.cleanup.next (frames_at x.image None r.ends.cleanup.site (registers_of s.first.caller) r.first r.more) reached

  -- what was due is what the frames from there on have
  due_was : left_due x.image s r.ends.cleanup.slot ≡ pads (remaining_landings (goal_at s r.ends.cleanup.slot) r.ends.cleanup.next (frames_at x.image None r.ends.cleanup.site (registers_of s.first.caller) r.first r.more).frames)
  due_was =
      let same : (r.ends.cleanup.slot == r.ends.cleanup.slot) ≡ true = grind (arith, nat_tests) in
      let long : r.ends.place < length (r.first ∷ r.more) = let e = r.many in omega (arith, e) in
      let kept : kept_frames x.image r.ends.place r.ends.cleanup (s.first ∷ s.outer) ≡ (frames_at x.image None r.ends.cleanup.site (by_sp r.ends.cleanup.sp) r.first r.more).frames =
      ap (λ (xs : List Activation). kept_frames x.image r.ends.place r.ends.cleanup (s.first ∷ xs)) r.outer ∙ kept_longer x.image r.ends.place r.ends.cleanup s.first (r.first ∷ r.more) long ∙ kept_here x.image r.ends.place r.ends.cleanup r.first r.more r.many in
      ap (due_among x.image s r.ends.cleanup.slot) r.cleanups
      ∙ ap (λ (b : Bool). cond b (due_of x.image s r.ends.place r.ends.cleanup) (due_among x.image s r.ends.cleanup.slot r.others)) same
      ∙ ap (λ (xs : List Frame). pads (remaining_landings (goal_at s r.ends.cleanup.slot) r.ends.cleanup.next xs)) kept
      ∙ sym (pads_by_sp (goal_at s r.ends.cleanup.slot) r.ends.cleanup.next x.image r.ends.cleanup.site (registers_of s.first.caller) r.ends.cleanup.sp r.first r.more sp_is)

  module _ (t : Recorded) (goes : o ≡ (Went, t)) where
    landing : IsLanded ended (drop (machine.passed_frame_count (goal_at s r.ends.cleanup.slot) r.ends.cleanup.next fs.frames) (r.first ∷ r.more)) r.ends.cleanup.slot (phase2 (goal_at s r.ends.cleanup.slot) r.ends.cleanup.next (frames_at x.image None r.ends.cleanup.site (registers_of s.first.caller) r.first r.more)) t
    landing =
        is_landed x.image is.image ended t 1 r.first r.more suffix r.ends.cleanup.slot object small idle (goal_at s r.ends.cleanup.slot) refl r.ends.cleanup.next r.ends.cleanup.site (registers_of s.first.caller) _ fit reached (went ∙ goes)

    pub ends_land : AreFirst (stands_at t ∷ left_due x.image t r.ends.cleanup.slot) (left_due x.image s r.ends.cleanup.slot)
    ends_land =
        subst (AreFirst (stands_at t ∷ left_due x.image t r.ends.cleanup.slot)) (sym due_was)
        (flight_due x.image is.image ended t 1 r.first r.more suffix r.ends.cleanup.slot object small idle (goal_at s r.ends.cleanup.slot) refl r.ends.cleanup.next r.ends.cleanup.site (registers_of s.first.caller) _ fit reached (went ∙ goes))

    pub ends_leave : Keeps x t → (u : ℕ) → (r.ends.cleanup.slot ≡ u → ⊥) → left_due x.image t u ≡ left_due x.image s u
    ends_leave kt u differ =
        others_kept x s t ended landing.moved (drop (machine.passed_frame_count (goal_at s r.ends.cleanup.slot) r.ends.cleanup.next fs.frames) (r.first ∷ r.more)) r.ends.cleanup.slot u r.ends.cleanup.sp (reg_in t SP) differ in_progress.3 kt.cleanups (λ h. same_goal s t u (landing.same u)) (phase2 (goal_at s r.ends.cleanup.slot) r.ends.cleanup.next fs) landing.listed
        ∙ sym (after_other x.image s u r.ends r.others differ) ∙ sym (ap (due_among x.image s u) r.cleanups)

  abbrev Enters : Entered → machine.Outcome
  Enters q = machine.enter_landing ended (drop (machine.passed_frame_count (goal_at s r.ends.cleanup.slot) r.ends.cleanup.next fs.frames) (r.first ∷ r.more)) (block r.ends.cleanup.slot) object q

  -- it terminates by nothing but a specification without a pad
  pub ends_by : (why : Cause) (t : Recorded) → o ≡ (Ended (the_end.Terminate why), t) → why ≡ cause.Unexpected
  ends_by why t e = go (phase2 (goal_at s r.ends.cleanup.slot) r.ends.cleanup.next fs) ends_enter (went ∙ e)
    where
      go : (q : Entered) → Lands q → Enters q ≡ (Ended (the_end.Terminate why), t) → why ≡ cause.Unexpected
      go (enters.Cleanup vrs pad next site) l w = absurd (not_went (the_end.Terminate why) t _ (sym w))
      go (enters.Catch vrs pad) l w = absurd (not_went (the_end.Terminate why) t _ (sym w))
      go (enters.Spec vrs pad) l w = absurd (not_went (the_end.Terminate why) t _ (sym w))
      go enters.Unexpected l w = let same = ap (λ (v : machine.Outcome). v.0) w in cc
      go (enters.Terminate other) l w = absurd l
