-- What the end of a cleanup leaves is kept.
use Rattle.std.proofs.Common.{ℕ, ◌≤◌, List, [], ◌∷◌, arith, ◌≡◌, inl, inr, true, length, Option, Some, None, refl, sym, ap, subst, ◌∙◌}
use Rattle.std.specs.Prelude.{slice_index}
use Rattle.eh_cxa.specs.Lists.{Cleanup}
use Rattle.frame_check.specs.Accepts.{Accepted}
use Rattle.sim_machines.specs.Activations.{Recorded, reg_in, memory_of, frames_at, registers_of, InProgress, cleanups_in}
use Rattle.eh_bytecode.specs.declared.frame.Vrs.{Vrs}
use Rattle.eh_cxa.specs.Throw.{barrier_of}
use Rattle.eh_cxa.specs.Words.{word, block, block_slot}
use Rattle.eh_cxa.proofs.Pools.{slot_of_block_is}
use Rattle.eh_gates.specs.Landing.{landing_registers, pad_event, words_of}
use Rattle.eh_gates.specs.State.{Tables}
use Rattle.eh_gates.specs.declared.gates.TheConstants.{END_CLEANUP_GATE}
use Rattle.eh_phase.specs.Cleanups.{is_reached}
use Rattle.eh_phase.specs.Phases.{phase2, vrs_of}
use Rattle.eh_phase.specs.declared.phase2.Entered.{Entered}
use Rattle.eh_phase.specs.declared.phase2.Goal.{Goal}
use Rattle.eh_trace.specs.declared.event.Event.{Event}
use Rattle.thumb_isa.specs.declared.instr.Instr.TheVariants.{Svc}
use Rattle.thumb_core.specs.declared.regs.TheConstants.{SP}
use Rattle.sim_machines.specs.Corresponds.{Corresponds}
use Rattle.eh_phase.specs.declared.phase2.Entered.TheVariants as enters
use Rattle.eh_trace.specs.declared.event.EventKind.TheVariants as event
use Rattle.sim_machines.specs.ActivationMachine as machine
use Rattle.sim_steps.specs.sim_relation.Cleanups.{AreInProgress, IsWithin, by_sp}
use Rattle.sim_steps.specs.sim_relation.Chain.{StandsAt}
use Rattle.sim_steps.specs.sim_relation.Stands.{Keeps, IsProgram, DoesAt}
use Rattle.sim_resumes.proofs.Entering.{Entering}
use Rattle.sim_resumes.proofs.EnteringKeeps.{handler_kept, cleanup_kept}
use Rattle.sim_throws.proofs.FramesAfter.{frames_after}
use Rattle.sim_throws.proofs.sim_frames.FramesSame.{site_is}
use Rattle.sim_throws.specs.sim_frames.Landings.{LandsIn, ReachesOn}
use Rattle.sim_throws.proofs.sim_frames.ReachBySp.{reached_by_sp}
use Rattle.sim_resumes.proofs.ResumeEnds.{ours, still, end_alike}
use Rattle.sim_resumes.proofs.ResumeFits.{Fits}
use Rattle.sim_resumes.proofs.ResumeLands.{Resumes}
use Rattle.sim_resumes.proofs.ResumeMatches.{entered_match}
use Rattle.sim_throws.proofs.sim_frames.WithinReach.{reached_above}
use Rattle.sim_resumes.proofs.ResumeFits as fitting
use Rattle.sim_resumes.proofs.ResumeLands as resume

-- landing sps that lie above one lie above a lower one
lowered : (x : Accepted) (s : Recorded) (low high : ℕ) (cleanups : List InProgress) → low ≤ high → AreInProgress x s high cleanups → AreInProgress x s low cleanups
lowered x s low high [] l h = tt
lowered x s low high (c ∷ more) l h = (let m = h.0 in omega (arith, l, m), h.1, h.2, h.3)

pub within_below : (low high : ℕ) (cleanups : List Cleanup) → low ≤ high → IsWithin high cleanups → IsWithin low cleanups
within_below low high [] l w = tt
within_below low high (c ∷ more) l w = omega (arith, l, w)

module _ (x : Accepted) (is : IsProgram x) (s : Recorded) (k : Keeps x s) (imm : ℕ) (does : DoesAt x s (Svc imm)) (g : Tables) where
  module _ (r : Resumes x s) where
    abbrev ended : Recorded
    ended = record s { cleanups = r.others }

    abbrev goal : Goal
    goal = resume.goal x is s k r

    abbrev there : LandsIn (resume.goal x is s k r) r.ends.cleanup.next s.home.1 s.first.caller.sp (resume.frames x is s k r).frames (r.holder.first ∷ r.holder.more) (phase2 (resume.goal x is s k r) r.ends.cleanup.next (resume.frames x is s k r))
    there = resume.there x is s k r

    in_progress : AreInProgress x s (reg_in s SP) (r.ends ∷ r.others)
    in_progress = subst (AreInProgress x s (reg_in s SP)) r.cleanups k.cleanups

    -- the state without the cleanup is kept
    ended_keeps : Keeps x ended
    ended_keeps = record {
      corresponds = still x is s k g r;
      counted = k.counted;
      beyond = k.beyond;
      image = k.image;
      sound = k.sound;
      low = k.low;
      high = k.high;
      whole = k.whole;
      slots = k.slots;
      first = k.first;
      chain = k.chain;
      cleanups = lowered x ended (reg_in s SP) r.ends.cleanup.sp r.others in_progress.0 in_progress.3;
    }

    entering : Entering x ended
    entering = record {
      cut = s.first ∷ there.cut;
      first = there.first;
      more = there.more;
      all = resume.all x is s k r;
      r = there.frame.r;
      sp = there.frame.sp;
      rest = fitting.rest x is s k imm does r;
      low = fitting.low x is s k imm does r;
      register = there.fit.1;
      saved = (fitting.words x is s k imm does r).0;
      aligned = let w = (fitting.words x is s k imm does r).1 in let e = there.fit.1 in omega (arith, w, e);
    }

    abbrev left_by : Entered → Recorded
    left_by e = (machine.enter_landing ended (there.first ∷ there.more) (block r.ends.cleanup.slot) (barrier_of (word (memory_of s)) (Some r.ends.cleanup.slot)).object e).1

    -- ---- a handler

    abbrev handles : Vrs → ℕ → Event → Recorded
    handles v pad e = machine.enter_handler ended (there.first ∷ there.more) (block r.ends.cleanup.slot) v.r pad e

    in_handler : (v : Vrs) (pad : ℕ) (e : Event) → (v ≡ vrs_of there.frame) → (there.frame.sp ≡ goal.sp)
        → StandsAt x there.first s.segments (landing_registers s.regs there.frame.r pad (block r.ends.cleanup.slot))
        (landing_registers s.regs there.frame.r pad (block r.ends.cleanup.slot)).pc
        → Corresponds (handles v pad e) → Keeps x (handles v pad e)
    unfolding entering
    in_handler v pad e same at stands is_still =
        subst (λ (w : Vrs). Keeps x (handles w pad e)) (sym same)
        (handler_kept x is ended ended_keeps entering r.ends.cleanup.slot (resume.in_flight x is s k r) (within_below there.frame.sp goal.sp (cleanups_in r.others) (omega (arith, at)) in_progress.2) pad e stands
        (subst (λ (w : Vrs). Corresponds (handles w pad e)) same is_still))

    -- ---- a cleanup

    abbrev cleans : Option ℕ → Vrs → ℕ → ℕ → ℕ → Recorded
    cleans o v pad next at =
        machine.log_event (machine.at_pad (machine.in_progress ended (length there.more) (block r.ends.cleanup.slot) (words_of v.r next at) o) (there.first ∷ there.more) v.r pad 0) (pad_event event.Cleanup pad (slice_index v.r SP) 0)

    reaches : (v : Vrs) (pad next at : ℕ) → phase2 goal r.ends.cleanup.next (resume.frames x is s k r) ≡ enters.Cleanup v pad next at → ReachesOn goal there.frame there.outer (enters.Cleanup v pad next at)
    reaches v pad next at e = subst (ReachesOn goal there.frame there.outer) e (there.reach (resume.in_order x is s k r) (resume.reached x is s k r))

    reach_by_sp : (v : Vrs) (pad next at : ℕ) → phase2 goal r.ends.cleanup.next (resume.frames x is s k r) ≡ enters.Cleanup v pad next at
        → is_reached goal next (frames_at x.image None there.frame.site (by_sp there.frame.sp) there.first there.more).frames ≡ true
    reach_by_sp v pad next at e =
        sym (reached_by_sp goal next x.image there.frame.site there.frame.r there.frame.sp there.first there.more there.fit.1)
        ∙ ap (is_reached goal next)
        (frames_after x.image r.ends.cleanup.site (registers_of s.first.caller) r.holder.first r.holder.more there.inner there.frame there.outer there.cut there.first there.more there.frames there.all there.beside)
        ∙ reaches v pad next at e

    in_cleanup : (v : Vrs) (pad next at : ℕ) → phase2 goal r.ends.cleanup.next (resume.frames x is s k r) ≡ enters.Cleanup v pad next at
        → Fits x s r.ends.cleanup.slot goal there.frame there.first there.more (enters.Cleanup v pad next at) → Corresponds (left_by (enters.Cleanup v pad next at)) → Keeps x (left_by (enters.Cleanup v pad next at))
    unfolding entering
    in_cleanup v pad next at e h is_still =
        let high : there.frame.sp ≤ goal.sp =
        reached_above goal there.frame.sp next s.home.1 there.frame.sp (there.frame ∷ there.outer) (there.first ∷ there.more) (omega arith) there.fit (fitting.rest x is s k imm does r).rise (reaches v pad next at e) in
        let whole : cleans (block_slot (block r.ends.cleanup.slot)) v pad next at ≡ cleans (Some r.ends.cleanup.slot) (vrs_of there.frame) pad next there.frame.site =
        ap (λ (o : Option ℕ). cleans o v pad next at) (slot_of_block_is r.ends.cleanup.slot (resume.small x is s k r)) ∙ ap (λ (w : Vrs). cleans (Some r.ends.cleanup.slot) w pad next at) h.0
        ∙ ap (λ (site : ℕ). cleans (Some r.ends.cleanup.slot) (vrs_of there.frame) pad next site) h.1 in
        subst (Keeps x) (sym whole)
        (cleanup_kept x is ended ended_keeps entering r.ends.cleanup.slot (resume.in_flight x is s k r) (within_below there.frame.sp goal.sp (cleanups_in r.others) high in_progress.2) pad
        (pad_event event.Cleanup pad (slice_index there.frame.r SP) 0) h.2 next there.frame.site (h.3 (reach_by_sp v pad next at e)) in_progress.2 (subst Corresponds whole is_still))

    -- ---- whatever it enters

    by_entered : (e : Entered) → phase2 goal r.ends.cleanup.next (resume.frames x is s k r) ≡ e → Fits x s r.ends.cleanup.slot goal there.frame there.first there.more e → Corresponds (left_by e) → Keeps x (left_by e)
    by_entered (enters.Cleanup v pad next at) e h is_still = in_cleanup v pad next at e h is_still
    by_entered (enters.Catch v pad) e h is_still = in_handler v pad (pad_event event.Catch pad (slice_index v.r SP) (barrier_of (word (memory_of s)) (Some r.ends.cleanup.slot)).object) h.0 h.1 h.2 is_still
    by_entered (enters.Spec v pad) e h is_still = in_handler v pad (pad_event event.Unexpected pad (slice_index v.r SP) 0) h.0 h.1 h.2 is_still
    by_entered enters.Unexpected e h is_still = ended_keeps
    by_entered (enters.Terminate why) e h is_still = ended_keeps

    goes_keeps : Keeps x (left_by (phase2 goal r.ends.cleanup.next (resume.frames x is s k r)))
    goes_keeps =
        by_entered (phase2 goal r.ends.cleanup.next (resume.frames x is s k r)) refl (fitting.resume_fits x is s k imm does r (phase2 goal r.ends.cleanup.next (resume.frames x is s k r)) refl) (entered_match x is s k g r).still

  pub resume_keeps : (next : ℕ) → Keeps x (machine.gate_of (ours x is s k g) END_CLEANUP_GATE next s).1
  unfolding machine.gate_of
  resume_keeps next = elim (end_alike x is s k g (site_is x s s.regs.pc is (inl (imm, does, refl)))) [
    | inl over ↦ subst (λ (q : machine.Outcome). Keeps x q.1) (sym over.2) k
    | inr goes ↦ subst (λ (q : machine.Outcome). Keeps x q.1) (sym goes.2) (goes_keeps goes.0)
  ]
