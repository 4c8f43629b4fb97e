-- What a throw leaves by what phase 2 enters: a pad of a catch or of a specification, or an end. A cleanup is given.
use Rattle.std.proofs.Common.{◌≡◌, ℕ, ◌^◌, ◌<◌, List, ◌∷◌, Option, Some, None, inl, refl, sym, subst}
use Rattle.std.specs.Prelude.{drop, slice_index}
use Rattle.eh_cxa.specs.Lists.{Lists}
use Rattle.eh_cxa.specs.Throw.{set_barrier_of}
use Rattle.eh_cxa.specs.Words.{Write, block, block_slot}
use Rattle.eh_cxa.specs.declared.globals.BarrierWords.{BarrierWords}
use Rattle.eh_cxa.proofs.Pools.{slot_of_block_is}
use Rattle.eh_phase.specs.Calls.{meeting}
use Rattle.eh_phase.specs.Laws.{goal_of}
use Rattle.eh_phase.specs.Verdict.{Meeting}
use Rattle.eh_bytecode.specs.declared.frame.Vrs.{Vrs}
use Rattle.eh_phase.specs.Phases.{Frames, phase2}
use Rattle.eh_phase.specs.declared.phase1.Barrier.{Barrier}
use Rattle.eh_phase.specs.declared.phase2.Entered.{Entered}
use Rattle.eh_phase.specs.declared.verdict.Thrown.{Thrown}
use Rattle.eh_trace.specs.Trace.{push_event}
use Rattle.eh_trace.specs.declared.event.Event.{Event}
use Rattle.thumb_isa.specs.declared.instr.Instr.TheVariants.{Svc}
use Rattle.thumb_core.specs.declared.regs.TheConstants.{SP}
use Rattle.sim_machines.specs.frame_check.Accepts.{Accepted}
use Rattle.eh_gates.specs.State.{Tables}
use Rattle.eh_gates.specs.Landing.{pad_event}
use Rattle.eh_gates.specs.Throwing.{handler_object, barrier_words}
use Rattle.sim_machines.specs.Activations.{Activation, Recorded, with_lists, with_words, cleanups_in}
use Rattle.sim_machines.specs.Corresponds.{Corresponds}
use Rattle.sim_machines.proofs.Flying.{HasFlown, flown_bytes, flies_match}
use Rattle.eh_phase.specs.declared.phase1.Found.TheVariants as found
use Rattle.eh_phase.specs.declared.phase2.Entered.TheVariants as enters
use Rattle.eh_trace.specs.declared.event.EventKind.TheVariants as event
use Rattle.eh_gates.specs.Throwing as bytes
use Rattle.sim_machines.specs.ActivationMachine as machine
use Rattle.sim_frames.specs.Frames.{ThrowsAt}
use Rattle.sim_frames.specs.sim_relation.Stands.{Keeps, IsProgram, DoesAt, IsCounted}
use Rattle.sim_throws.proofs.Bounds.{AreOf}
use Rattle.sim_throws.proofs.EndsKeep.{after_keeps}
use Rattle.sim_frames.proofs.FramesSame.{throws_see_alike}
use Rattle.sim_throws.proofs.ThrowGates.{can_land}
use Rattle.sim_throws.proofs.ThrowKeeps.{throw_enters, enters_passed, catch_keeps, spec_keeps}
use Rattle.sim_throws.proofs.ThrowLands.{recorded_frames}

module _ (x : Accepted) (is : IsProgram x) (s : Recorded) (k : Keeps x s) (imm : ℕ) (does : DoesAt x s (Svc imm)) (g : Tables) where
  abbrev pub ours : Tables
  ours = record g { image = x.image }

  abbrev throws : ThrowsAt x s s.regs.pc
  throws = inl (imm, does, refl)

  abbrev frames : Frames
  frames = recorded_frames x is s k s.regs.pc throws None

  module _ (thrown : Thrown) (small : thrown.object < 2 ^ 32) (slot : ℕ) (writes : List Write) (flown : Lists) (e : Event) (b : Barrier) (flight : HasFlown s slot writes flown)
      (same : flown.cleanups ≡ cleanups_in s.cleanups) (of_slot : AreOf slot writes) (counted : IsCounted flown) (search : machine.phase1_result ours s thrown ≡ found.Barrier b) where
    abbrev m : Meeting
    m = meeting x.image g.types s.segments thrown

    abbrev words : BarrierWords
    words = barrier_words (block slot) b

    abbrev t : Recorded
    t = with_lists flown writes (machine.log_event s e)

    -- what is left where phase 2 enters this in the first of these
    abbrev pub left_in : Option ℕ → List Activation → Entered → Recorded
    left_in o acts q = (machine.enter_landing (with_words (set_barrier_of o words) t) acts (block slot) (handler_object (block slot) b.hit) q).1

    -- of a cleanup
    abbrev pub EntersCleanup : Type 0
    EntersCleanup = (vrs : Vrs) (pad next site : ℕ) → phase2 (goal_of b) 0 frames ≡ enters.Cleanup vrs pad next site
        → Corresponds (left_in (Some slot) ((throw_enters x is s k s.regs.pc throws m b search).first ∷ (throw_enters x is s k s.regs.pc throws m b search).more) (enters.Cleanup vrs pad next site))
        → Keeps x (left_in (Some slot) ((throw_enters x is s k s.regs.pc throws m b search).first ∷ (throw_enters x is s k s.regs.pc throws m b search).more) (enters.Cleanup vrs pad next site))

    module _ (cleanup : EntersCleanup) where
      abbrev Left : Option ℕ → List Activation → Entered → Type 0
      Left o acts q = Corresponds (left_in o acts q) → Keeps x (left_in o acts q)

      by_entered : (q : Entered) → phase2 (goal_of b) 0 frames ≡ q
          → Left (Some slot) ((throw_enters x is s k s.regs.pc throws m b search).first ∷ (throw_enters x is s k s.regs.pc throws m b search).more) q
      by_entered (enters.Cleanup vrs pad next site) is_there still = cleanup vrs pad next site is_there still
      by_entered (enters.Catch vrs pad) is_there still =
          catch_keeps x is s k s.regs.pc throws m b search slot writes flown flight same of_slot counted e words (pad_event event.Catch pad (slice_index vrs.r SP) (handler_object (block slot) b.hit)) vrs pad is_there still
      by_entered (enters.Spec vrs pad) is_there still =
          spec_keeps x is s k s.regs.pc throws m b search slot writes flown flight same of_slot counted e words (pad_event event.Unexpected pad (slice_index vrs.r SP) 0) vrs pad is_there still
      by_entered enters.Unexpected is_there still = after_keeps x s k slot writes flown flight same of_slot counted e words still
      by_entered (enters.Terminate why) is_there still = after_keeps x s k slot writes flown flight same of_slot counted e words still

      passed : drop (machine.passed_frame_count (goal_of b) 0 frames.frames) (s.first ∷ s.outer) ≡ (throw_enters x is s k s.regs.pc throws m b search).first ∷ (throw_enters x is s k s.regs.pc throws m b search).more
      passed = enters_passed x is s k s.regs.pc throws m b search

      left_there : Left (block_slot (block slot)) (drop (machine.passed_frame_count (goal_of b) 0 frames.frames) (s.first ∷ s.outer)) (phase2 (goal_of b) 0 frames)
      left_there =
          subst (λ (o : Option ℕ). Left o (drop (machine.passed_frame_count (goal_of b) 0 frames.frames) (s.first ∷ s.outer)) (phase2 (goal_of b) 0 frames)) (sym (slot_of_block_is slot flight.small))
          (subst (λ (acts : List Activation). Left (Some slot) acts (phase2 (goal_of b) 0 frames)) (sym passed) (by_entered (phase2 (goal_of b) 0 frames) refl))

      still : Corresponds (machine.throw_to ours s.regs.pc (block slot) b t).1
      still =
          (flies_match ours s k.corresponds slot writes flown flight (push_event s.events e) s.regs.pc (throws_see_alike x s ours imm is k does refl).advance b (can_land x is s k imm does g thrown slot b small search)
          (bytes.throw_to ours (flown_bytes s writes flown e) s.regs.pc (block slot) b) t refl refl).still

      pub flight_keeps : Keeps x (machine.throw_to ours s.regs.pc (block slot) b t).1
      unfolding machine.throw_to
      flight_keeps = left_there still
