-- A throw that lands in a handler keeps what every event keeps.
use Rattle.std.proofs.Common.{◌≡◌, true, ℕ, ◌≤◌, List, [], ◌∷◌, ◌++◌, Some, None, sym, subst, arith}
use Rattle.std.specs.Prelude.{drop}
use Rattle.eh_bytecode.specs.declared.frame.Vrs.{Vrs}
use Rattle.eh_cxa.specs.Lists.{Lists, Cleanup}
use Rattle.eh_cxa.specs.Words.{Write, block}
use Rattle.eh_cxa.specs.declared.globals.BarrierWords.{BarrierWords}
use Rattle.eh_phase.specs.Cleanups.{is_reached}
use Rattle.eh_phase.specs.Laws.{goal_of}
use Rattle.eh_phase.specs.Phases.{Frame, phase1, phase2, vrs_of}
use Rattle.eh_phase.specs.Verdict.{Meeting}
use Rattle.eh_phase.specs.declared.phase1.Barrier.{Barrier}
use Rattle.eh_trace.specs.declared.event.Event.{Event}
use Rattle.thumb_core.specs.Registers.{all_of}
use Rattle.thumb_core.specs.declared.regs.TheConstants.{SP}
use Rattle.sim_machines.specs.frame_check.Accepts.{Accepted}
use Rattle.sim_machines.specs.Activations.{Activation, Recorded, reg_in, first_place, frames_at, with_words, with_lists, cleanups_in}
use Rattle.eh_cxa.specs.Throw.{set_barrier_of}
use Rattle.sim_machines.specs.Corresponds.{Corresponds}
use Rattle.sim_machines.proofs.Flying.{HasFlown}
use Rattle.eh_phase.specs.declared.phase1.Found.TheVariants as found
use Rattle.eh_phase.specs.declared.phase2.Entered.TheVariants as enters
use Rattle.sim_machines.specs.ActivationMachine as machine
use Rattle.sim_frames.specs.sim_relation.Cleanups.{IsWithin, AreInProgress}
use Rattle.sim_frames.specs.Frames.{ThrowsAt, IsSiteOf}
use Rattle.sim_frames.specs.sim_relation.Stands.{Keeps, IsProgram, IsCounted}
use Rattle.sim_throws.proofs.After.{Enters}
use Rattle.sim_throws.proofs.Bounds.{AreOf, barrier_within}
use Rattle.sim_throws.proofs.CleanupReach.{cleanup_reach}
use Rattle.sim_frames.proofs.FramesSame.{site_is}
use Rattle.sim_frames.proofs.sim_relation.Goes.{chain_top}
use Rattle.sim_throws.proofs.Handler.{handler_keeps}
use Rattle.sim_frames.specs.Landings.{Fit, Rise, LandsIn, Offers, OfFrame, ReachesOn, IsLocated}
use Rattle.sim_frames.proofs.Landing.{fit_frames, rise_outside}
use Rattle.sim_frames.proofs.Located.{Sides, side_at, located, rest_at}
use Rattle.sim_throws.proofs.ThrowLands.{recorded_frames, sp_is, throw_lands}
use Rattle.sim_throws.proofs.ThrowReached.{throw_in_order, throw_reached}
use Rattle.sim_frames.proofs.WithinReach.{reached_above}

module _ (x : Accepted) (is : IsProgram x) (s : Recorded) (k : Keeps x s) (site : ℕ) (throws : ThrowsAt x s site) (m : Meeting) (b : Barrier)
    (search : phase1 m (recorded_frames x is s k site throws (first_place s.cleanups)) ≡ found.Barrier b) where
  abbrev pub here : IsSiteOf x s site
  here = site_is x s site is throws

  abbrev there : LandsIn (goal_of b) 0 s.home.1 (reg_in s SP) (recorded_frames x is s k site throws None).frames (s.first ∷ s.outer) (phase2 (goal_of b) 0 (recorded_frames x is s k site throws None))
  there = throw_lands x is s k site throws m b search

  fits : Fit (reg_in s SP) (there.inner ++ there.frame ∷ there.outer) (there.cut ++ there.first ∷ there.more)
  fits =
      subst (λ (acts : List Activation). Fit (reg_in s SP) (there.inner ++ there.frame ∷ there.outer) acts) there.all
      (subst (λ (fs : List Frame). Fit (reg_in s SP) fs (s.first ∷ s.outer)) there.frames
      (subst (λ (n : ℕ). Fit n (recorded_frames x is s k site throws None).frames (s.first ∷ s.outer)) (sp_is x is s k site throws)
      (fit_frames x s.segments s.home None site (all_of s.regs) s.first s.outer k.whole k.chain)))

  sides : Sides (IsLocated x s.segments site (all_of s.regs) s.first) (there.inner ++ there.frame ∷ there.outer) (there.cut ++ there.first ∷ there.more)
  sides =
      subst (λ (acts : List Activation). Sides (IsLocated x s.segments site (all_of s.regs) s.first) (there.inner ++ there.frame ∷ there.outer) acts) there.all
      (subst (λ (fs : List Frame). Sides (IsLocated x s.segments site (all_of s.regs) s.first) fs (s.first ∷ s.outer)) there.frames
      (located x s.segments s.home None site (all_of s.regs) s.first s.outer k.whole k.chain))

  -- what is entered, with its frame, its activation, and those inside and outside it
  pub throw_enters : Enters x is s k site here
  throw_enters =
      let top = chain_top x s.segments s.home s.first.caller s.outer k.chain in
      let high = k.high in
      let w = rest_at s.home.1 (reg_in s SP) there.inner there.frame there.outer there.cut there.first there.more there.beside fits
      (subst (Rise s.home.1 (reg_in s SP)) there.all (k.slots, high, top, rise_outside x s.segments s.home s.first.caller s.outer k.chain)) in
      record {
        cut = there.cut;
        first = there.first;
        more = there.more;
        all = there.all;
        frame = there.frame;
        located = side_at (IsLocated x s.segments site (all_of s.regs) s.first) there.inner there.frame there.outer there.cut there.first there.more there.beside sides;
        rest = w.1;
        low = w.0;
        register = there.fit.1;
      }

  pub enters_passed : drop (machine.passed_frame_count (goal_of b) 0 (recorded_frames x is s k site throws None).frames) (s.first ∷ s.outer) ≡ throw_enters.first ∷ throw_enters.more
  unfolding throw_enters
  enters_passed = there.passed

  pub enters_of : OfFrame (goal_of b) throw_enters.frame (phase2 (goal_of b) 0 (recorded_frames x is s k site throws None))
  unfolding throw_enters
  enters_of = there.of

  -- its barrier stands at or below the landing sp of the innermost cleanup in progress
  pub throw_within : IsWithin b.sp (cleanups_in s.cleanups)
  throw_within =
      barrier_within x s site (all_of s.regs) m b k.whole k.chain s.cleanups
      (subst (λ (n : ℕ). AreInProgress x s n s.cleanups) (sym (sp_is x is s k site throws)) k.cleanups) search

  -- where it is a cleanup, the barrier is within reach from it on ..
  pub throw_reaches : (vrs : Vrs) (pad next at : ℕ) → phase2 (goal_of b) 0 (recorded_frames x is s k site throws None) ≡ enters.Cleanup vrs pad next at
      → is_reached (goal_of b) next (frames_at x.image None throw_enters.frame.site throw_enters.frame.r throw_enters.first throw_enters.more).frames ≡ true
  unfolding throw_enters
  throw_reaches vrs pad next at e = cleanup_reach x is s k site throws m b search vrs pad next at e

  -- .. so it stands at or above where that one stands
  throw_above : (vrs : Vrs) (pad next at : ℕ) → phase2 (goal_of b) 0 (recorded_frames x is s k site throws None) ≡ enters.Cleanup vrs pad next at → throw_enters.frame.sp ≤ b.sp
  unfolding throw_enters
  throw_above vrs pad next at e =
      reached_above (goal_of b) there.frame.sp next s.home.1 there.frame.sp (there.frame ∷ there.outer) (there.first ∷ there.more) (omega arith) there.fit throw_enters.rest.rise
      (subst (ReachesOn (goal_of b) there.frame there.outer) e (there.reach (throw_in_order x is s k site throws) (throw_reached x is s k site throws m b search)))

  within_below : (low high : ℕ) (cleanups : List Cleanup) → low ≤ high → IsWithin high cleanups → IsWithin low cleanups
  within_below low high [] l w = tt
  within_below low high (c ∷ more) l w = omega (arith, l, w)

  -- .. and no cleanup in progress landed below that
  pub cleanup_within : (vrs : Vrs) (pad next at : ℕ) → phase2 (goal_of b) 0 (recorded_frames x is s k site throws None) ≡ enters.Cleanup vrs pad next at → IsWithin throw_enters.frame.sp (cleanups_in s.cleanups)
  cleanup_within vrs pad next at e = within_below throw_enters.frame.sp b.sp (cleanups_in s.cleanups) (throw_above vrs pad next at e) throw_within

  pub moved_within : (n : ℕ) → n ≡ b.sp → IsWithin n (cleanups_in s.cleanups)
  moved_within n e = subst (λ (v : ℕ). IsWithin v (cleanups_in s.cleanups)) (sym e) throw_within

  -- in a handler: after the words of the throw and of its barrier
  module _ (slot : ℕ) (writes : List Write) (flown : Lists) (flight : HasFlown s slot writes flown) (cleanups_same : flown.cleanups ≡ cleanups_in s.cleanups) (of_slot : AreOf slot writes) (counted : IsCounted flown) (e : Event) (w : BarrierWords) (logs : Event) where
    abbrev pub before_landing : Recorded
    before_landing = with_words (set_barrier_of (Some slot) w) (with_lists flown writes (machine.log_event s e))

    abbrev pub in_handler : Vrs → ℕ → Recorded
    in_handler vrs pad = machine.enter_handler before_landing (throw_enters.first ∷ throw_enters.more) (block slot) vrs.r pad logs

    keeps_by : (vrs : Vrs) (pad : ℕ) → (vrs ≡ vrs_of there.frame) × Offers there.frame pad × (there.frame.sp ≡ b.sp) → Corresponds (in_handler vrs pad) → Keeps x (in_handler vrs pad)
    unfolding throw_enters
    keeps_by vrs pad h still =
        subst (λ (v : Vrs). Keeps x (in_handler v pad)) (sym h.0)
        (handler_keeps x is s k site here throw_enters pad h.1 slot writes flown flight cleanups_same of_slot counted (moved_within there.frame.sp h.2) e w logs
        (subst (λ (v : Vrs). Corresponds (in_handler v pad)) h.0 still))

    -- of a catch
    pub catch_keeps : (vrs : Vrs) (pad : ℕ) → phase2 (goal_of b) 0 (recorded_frames x is s k site throws None) ≡ enters.Catch vrs pad → Corresponds (in_handler vrs pad) → Keeps x (in_handler vrs pad)
    catch_keeps vrs pad is_catch still = keeps_by vrs pad (subst (OfFrame (goal_of b) there.frame) is_catch there.of) still

    -- of a specification
    pub spec_keeps : (vrs : Vrs) (pad : ℕ) → phase2 (goal_of b) 0 (recorded_frames x is s k site throws None) ≡ enters.Spec vrs pad → Corresponds (in_handler vrs pad) → Keeps x (in_handler vrs pad)
    spec_keeps vrs pad is_spec still = keeps_by vrs pad (subst (OfFrame (goal_of b) there.frame) is_spec there.of) still
