-- Where the exception of a slot flies to a barrier within reach from a site, phase 2 enters the same in both machines, and what that leaves is
-- kept.
use Rattle.std.proofs.Common.{◌≡◌, ℕ, ◌≤◌, true, List, ◌∷◌, length, Option, Some, None, sym, ap, subst, ◌∙◌, arith}
use Rattle.std.specs.Prelude.{slice_index}
use Rattle.eh_bytecode.specs.declared.frame.Vrs.{Vrs}
use Rattle.eh_cxa.specs.Words.{block, block_slot}
use Rattle.eh_cxa.proofs.Pools.{slot_of_block_is}
use Rattle.eh_gates.specs.Landing.{enter_landing, landing_registers, pad_event, words_of}
use Rattle.eh_phase.specs.Calls.{stack_of}
use Rattle.eh_phase.specs.Cleanups.{is_reached}
use Rattle.eh_phase.specs.Frames.{frames_of}
use Rattle.eh_phase.specs.Phases.{Frame, phase2, vrs_of}
use Rattle.eh_phase.specs.declared.phase2.Entered.{Entered}
use Rattle.eh_phase.specs.declared.phase2.Goal.{Goal}
use Rattle.eh_trace.specs.declared.event.Event.{Event}
use Rattle.thumb_core.specs.Registers.{all_of}
use Rattle.thumb_core.specs.declared.regs.TheConstants.{SP}
use Rattle.frame_flow.specs.Causes.{is_call}
use Rattle.frame_check.specs.Accepts.{Accepted}
use Rattle.sim_machines.specs.Activations.{Activation, Recorded, memory_of, bytes_of, frames_at, cleanups_in}
use Rattle.sim_machines.specs.Corresponds.{Corresponds, GateMatches}
use Rattle.sim_machines.specs.Landings.{IsInFlight}
use Rattle.sim_machines.proofs.Agreeing.{are_one}
use Rattle.sim_machines.proofs.Landed.{landings_match}
use Rattle.eh_phase.specs.declared.phase2.Entered.TheVariants as enters
use Rattle.eh_trace.specs.declared.event.EventKind.TheVariants as event
use Rattle.sim_machines.specs.ActivationMachine as machine
use Rattle.sim_steps.specs.sim_relation.Chain.{code, StandsAt}
use Rattle.sim_steps.specs.sim_relation.Cleanups.{by_sp, goal_at, IsWithin}
use Rattle.sim_resumes.specs.Flying.{all_frames}
use Rattle.sim_throws.specs.sim_frames.Frames.{ThrowsAt, IsSiteOf}
use Rattle.sim_steps.specs.sim_relation.Stands.{Keeps, IsProgram}
use Rattle.sim_throws.proofs.After.{frame_words}
use Rattle.sim_steps.proofs.Rooms.{has_room}
use Rattle.sim_throws.proofs.CleanupEntered.{cleanup_entered}
use Rattle.sim_throws.proofs.CleanupKeeps.{offers_of}
use Rattle.sim_resumes.proofs.Entering.{Entering}
use Rattle.sim_resumes.proofs.EnteringKeeps.{handler_kept, cleanup_kept}
use Rattle.sim_steps.proofs.sim_relation.Flows.{none_stands}
use Rattle.sim_throws.proofs.FramesAfter.{frames_after}
use Rattle.sim_throws.proofs.sim_frames.FramesSame.{frames_are_same}
use Rattle.sim_throws.specs.sim_frames.Landings.{Offers, OfFrame, ReachesOn}
use Rattle.sim_throws.proofs.sim_frames.PadStands.{pad_stands}
use Rattle.sim_throws.proofs.sim_frames.ReachBySp.{reached_by_sp}
use Rattle.sim_resumes.proofs.ResumeKeeps.{within_below}
use Rattle.sim_throws.proofs.ThrowReached.{throw_in_order}
use Rattle.sim_throws.proofs.sim_frames.WithinReach.{reached_above}
use Rattle.sim_resumes.proofs.FlyLands as fly

module _ (x : Accepted) (is : IsProgram x) (s : Recorded) (k : Keeps x s) (site : ℕ) (throws : ThrowsAt x s site) (slot object : ℕ) (flight : IsInFlight s slot)
    (reached : is_reached (goal_at s slot) 0 (all_frames x s site).frames ≡ true) (within : IsWithin (goal_at s slot).sp (cleanups_in s.cleanups)) where
  abbrev goal : Goal
  goal = goal_at s slot

  abbrev here : IsSiteOf x s site
  here = fly.here x is s k site throws (goal_at s slot) reached

  abbrev pub enters_it : Entered
  enters_it = phase2 (goal_at s slot) 0 (all_frames x s site)

  -- ---- the same in both

  pub fly_matches : GateMatches (enter_landing (bytes_of s) (block slot) object (phase2 goal 0 (frames_of x.image (stack_of (memory_of s)) None site (all_of s.regs))))
      (machine.advances s (s.first ∷ s.outer) (block slot) object goal 0 (all_frames x s site))
  fly_matches =
      let l = fly.there x is s k site throws goal reached in
      let on_bytes = (are_one (frames_of x.image (stack_of (memory_of s)) None site (all_of s.regs)) (all_frames x s site) (frames_are_same x s site is k throws).all).bytes goal 0 (bytes_of s) (block slot) object in
      subst (λ o. GateMatches o (machine.advances s (s.first ∷ s.outer) (block slot) object goal 0 (all_frames x s site))) (sym on_bytes)
      (subst (λ (acts : List Activation). GateMatches (enter_landing (bytes_of s) (block slot) object enters_it) (machine.enter_landing s acts (block slot) object enters_it)) (sym l.passed)
      (landings_match s l.cut l.first l.more slot object enters_it k.corresponds flight l.all (fly.lands_there x is s k site throws goal reached)))

  -- ---- kept

  abbrev first : Activation
  first = (fly.enters_there x is s k site throws (goal_at s slot) reached).first

  abbrev more : List Activation
  more = (fly.enters_there x is s k site throws (goal_at s slot) reached).more

  abbrev frame : Frame
  frame = (fly.enters_there x is s k site throws (goal_at s slot) reached).frame

  entering : Entering x s
  entering =
      let n = fly.enters_there x is s k site throws goal reached in
      let words = frame_words x is s k site here n.frame n.first n.located in
      record {
        cut = n.cut;
        first = n.first;
        more = n.more;
        all = n.all;
        r = n.frame.r;
        sp = n.frame.sp;
        rest = n.rest;
        low = n.low;
        register = n.register;
        saved = words.0;
        aligned = let w = words.1 in let e = n.register in omega (arith, w, e);
      }

  abbrev left_by : Entered → Recorded
  left_by e = (machine.enter_landing s (first ∷ more) (block slot) object e).1

  pad_there : (pad answer : ℕ) → Offers frame pad → StandsAt x first s.segments (landing_registers s.regs frame.r pad answer) (landing_registers s.regs frame.r pad answer).pc
  pad_there pad answer o = let n = fly.enters_there x is s k site throws goal reached in pad_stands x is s k site here n.frame n.first pad answer n.located o

  in_handler : (v : Vrs) (pad : ℕ) (e : Event) → (v ≡ vrs_of frame) × Offers frame pad × (frame.sp ≡ goal.sp)
      → Corresponds (machine.enter_handler s (first ∷ more) (block slot) v.r pad e) → Keeps x (machine.enter_handler s (first ∷ more) (block slot) v.r pad e)
  unfolding entering
  in_handler v pad e h still =
      let at = h.2 in
      subst (λ (w : Vrs). Keeps x (machine.enter_handler s (first ∷ more) (block slot) w.r pad e)) (sym h.0)
      (handler_kept x is s k entering slot flight (within_below frame.sp goal.sp (cleanups_in s.cleanups) (omega (arith, at)) within) pad e (pad_there pad (block slot) h.1)
      (subst (λ (w : Vrs). Corresponds (machine.enter_handler s (first ∷ more) (block slot) w.r pad e)) h.0 still))

  -- a call has room on the stack
  deep : is_call here.instr ≡ true → 4 ≤ here.at.fact.depth
  deep e =
      has_room (code x here.at.function here.at.marks) here.at.place here.at.fact (none_stands x here.at.function here.at.marks is.sound here.at.of.among here.at.of.are) here.at.state here.instr here.stands e

  abbrev cleans : Option ℕ → Vrs → ℕ → ℕ → ℕ → Recorded
  cleans o v pad next at =
      machine.log_event (machine.at_pad (machine.in_progress s (length more) (block slot) (words_of v.r next at) o) (first ∷ more) v.r pad 0) (pad_event event.Cleanup pad (slice_index v.r SP) 0)

  in_cleanup : (v : Vrs) (pad next at : ℕ) → OfFrame goal frame (enters.Cleanup v pad next at) → ReachesOn goal frame (fly.there x is s k site throws goal reached).outer (enters.Cleanup v pad next at)
      → Corresponds (left_by (enters.Cleanup v pad next at)) → Keeps x (left_by (enters.Cleanup v pad next at))
  unfolding entering
  in_cleanup v pad next at h on still =
      let n = fly.enters_there x is s k site throws goal reached in
      let l = fly.there x is s k site throws goal reached in
      let high : frame.sp ≤ goal.sp = reached_above goal frame.sp next s.home.1 frame.sp (l.frame ∷ l.outer) (l.first ∷ l.more) (omega arith) l.fit n.rest.rise on in
      let reach : is_reached goal next (frames_at x.image None frame.site (by_sp frame.sp) first more).frames ≡ true =
      sym (reached_by_sp goal next x.image frame.site frame.r frame.sp first more n.register)
      ∙ ap (is_reached goal next) (frames_after x.image site (all_of s.regs) s.first s.outer l.inner l.frame l.outer l.cut l.first l.more l.frames l.all l.beside) ∙ on in
      let whole : cleans (block_slot (block slot)) v pad next at ≡ cleans (Some slot) (vrs_of frame) pad next frame.site =
      ap (λ (o : Option ℕ). cleans o v pad next at) (slot_of_block_is slot flight.small) ∙ ap (λ (w : Vrs). cleans (Some slot) w pad next at) h.0
      ∙ ap (λ (here_at : ℕ). cleans (Some slot) (vrs_of frame) pad next here_at) h.1 in
      subst (Keeps x) (sym whole)
      (cleanup_kept x is s k entering slot flight (within_below frame.sp goal.sp (cleanups_in s.cleanups) high within) pad (pad_event event.Cleanup pad (slice_index frame.r SP) 0)
      (pad_there pad 0 (offers_of x is s k site here n pad next h.2)) next frame.site (cleanup_entered x is s k site here deep n slot pad next h.2 goal reach) within (subst Corresponds whole still))

  by_entered : (e : Entered) → OfFrame goal frame e → ReachesOn goal frame (fly.there x is s k site throws goal reached).outer e → Corresponds (left_by e) → Keeps x (left_by e)
  by_entered (enters.Cleanup v pad next at) h on still = in_cleanup v pad next at h on still
  by_entered (enters.Catch v pad) h on still = in_handler v pad (pad_event event.Catch pad (slice_index v.r SP) object) h still
  by_entered (enters.Spec v pad) h on still = in_handler v pad (pad_event event.Unexpected pad (slice_index v.r SP) 0) h still
  by_entered enters.Unexpected h on still = k
  by_entered (enters.Terminate why) h on still = k

  pub fly_keeps : Keeps x (machine.advances s (s.first ∷ s.outer) (block slot) object goal 0 (all_frames x s site)).1
  fly_keeps =
      let l = fly.there x is s k site throws goal reached in
      let still : Corresponds (machine.enter_landing s (l.first ∷ l.more) (block slot) object enters_it).1 =
      subst (λ (acts : List Activation). Corresponds (machine.enter_landing s acts (block slot) object enters_it).1) l.passed fly_matches.still in
      subst (λ (acts : List Activation). Keeps x (machine.enter_landing s acts (block slot) object enters_it).1) (sym l.passed)
      (by_entered enters_it l.of (l.reach (throw_in_order x is s k site throws) reached) still)
