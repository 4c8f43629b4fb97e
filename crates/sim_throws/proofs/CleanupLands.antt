-- A throw that lands in a cleanup keeps what every event keeps.
use Rattle.std.proofs.Common.{◌≡◌, ℕ, ◌^◌, ◌<◌, List, ◌∷◌, length, Option, Some, inl, refl, sym, ap, subst, ◌∙◌}
use Rattle.std.specs.Prelude.{slice_index}
use Rattle.eh_cxa.specs.Lists.{Lists}
use Rattle.eh_cxa.specs.Throw.{set_barrier_of}
use Rattle.eh_cxa.specs.Words.{Write, block, block_slot}
use Rattle.eh_cxa.proofs.Pools.{slot_of_block_is}
use Rattle.eh_bytecode.specs.declared.frame.Vrs.{Vrs}
use Rattle.eh_phase.specs.Calls.{meeting}
use Rattle.eh_phase.specs.Laws.{goal_of}
use Rattle.eh_phase.specs.Phases.{vrs_of}
use Rattle.eh_phase.specs.Verdict.{Meeting}
use Rattle.eh_phase.specs.declared.phase1.Barrier.{Barrier}
use Rattle.eh_phase.specs.declared.verdict.Thrown.{Thrown}
use Rattle.eh_trace.specs.declared.event.Event.{Event}
use Rattle.thumb_isa.specs.declared.instr.Instr.TheVariants.{Svc}
use Rattle.thumb_core.specs.declared.regs.TheConstants.{SP}
use Rattle.sim_machines.specs.frame_check.Accepts.{Accepted}
use Rattle.eh_gates.specs.State.{Tables}
use Rattle.eh_gates.specs.Landing.{pad_event, words_of}
use Rattle.eh_gates.specs.Throwing.{barrier_words}
use Rattle.sim_machines.specs.Activations.{Recorded, with_lists, with_words, cleanups_in}
use Rattle.sim_machines.specs.Corresponds.{Corresponds}
use Rattle.sim_machines.specs.Throws.{CanLand}
use Rattle.sim_machines.proofs.Flying.{HasFlown}
use Rattle.eh_phase.specs.declared.phase1.Found.TheVariants as found
use Rattle.eh_phase.specs.declared.phase2.Entered.TheVariants as enters
use Rattle.eh_trace.specs.declared.event.EventKind.TheVariants as event
use Rattle.sim_machines.specs.ActivationMachine as machine
use Rattle.sim_frames.specs.sim_relation.Stands.{Keeps, IsProgram, DoesAt, IsCounted}
use Rattle.sim_throws.proofs.After.{Enters}
use Rattle.sim_throws.proofs.Bounds.{AreOf}
use Rattle.sim_throws.proofs.CleanupKeeps.{cleanup_keeps}
use Rattle.sim_throws.proofs.FlightLands.{ours, EntersCleanup}
use Rattle.sim_frames.proofs.FramesSame.{gate_deep}
use Rattle.sim_frames.specs.Landings.{OfFrame}
use Rattle.sim_frames.proofs.ReachBySp.{reached_by_sp}
use Rattle.sim_throws.proofs.ThrowGates.{can_land}
use Rattle.sim_throws.proofs.ThrowKeeps.{here, throw_enters, enters_of, throw_within, throw_reaches, cleanup_within}

module _ (x : Accepted) (is : IsProgram x) (s : Recorded) (k : Keeps x s) (imm : ℕ) (does : DoesAt x s (Svc imm)) (g : Tables) (thrown : Thrown) (small : thrown.object < 2 ^ 32) (slot : ℕ) (writes : List Write) (flown : Lists)
    (e : Event) (b : Barrier) (flight : HasFlown s slot writes flown) (same : flown.cleanups ≡ cleanups_in s.cleanups) (of_slot : AreOf slot writes) (counted : IsCounted flown) (search : machine.phase1_result (ours x is s k imm does g) s thrown ≡ found.Barrier b) where
  abbrev m : Meeting
  m = meeting x.image g.types s.segments thrown

  abbrev n : Enters x is s k s.regs.pc (here x is s k s.regs.pc (inl (imm, does, refl)) m b search)
  n = throw_enters x is s k s.regs.pc (inl (imm, does, refl)) m b search

  abbrev t : Recorded
  t = with_words (set_barrier_of (Some slot) (barrier_words (block slot) b)) (with_lists flown writes (machine.log_event s e))

  -- in progress by a slot, in the activation that is entered
  abbrev left_by : Option ℕ → Vrs → ℕ → ℕ → ℕ → Recorded
  left_by o vrs pad next at =
      machine.log_event (machine.at_pad (machine.in_progress t (length n.more) (block slot) (words_of vrs.r next at) o) (n.first ∷ n.more) vrs.r pad 0) (pad_event event.Cleanup pad (slice_index vrs.r SP) 0)

  pub cleanup_lands : EntersCleanup x is s k imm does g thrown small slot writes flown e b flight same of_slot counted search
  cleanup_lands vrs pad next at is_there still =
      let h : OfFrame (goal_of b) n.frame (enters.Cleanup vrs pad next at) = subst (OfFrame (goal_of b) n.frame) is_there (enters_of x is s k s.regs.pc (inl (imm, does, refl)) m b search) in
      let can : CanLand (ours x is s k imm does g) s s.regs.pc slot b = can_land x is s k imm does g thrown slot b small search in
      let whole : left_by (block_slot (block slot)) vrs pad next at ≡ left_by (Some slot) (vrs_of n.frame) pad next n.frame.site =
      ap (λ (o : Option ℕ). left_by o vrs pad next at) (slot_of_block_is slot flight.small) ∙ ap (λ (v : Vrs). left_by (Some slot) v pad next at) h.0
      ∙ ap (λ (site : ℕ). left_by (Some slot) (vrs_of n.frame) pad next site) h.1 in
      subst (Keeps x) (sym whole)
      (cleanup_keeps x is s k s.regs.pc (here x is s k s.regs.pc (inl (imm, does, refl)) m b search) (gate_deep x s is imm does) n pad next h.2 slot writes flown flight same of_slot counted
      (cleanup_within x is s k s.regs.pc (inl (imm, does, refl)) m b search vrs pad next at is_there) e (barrier_words (block slot) b) can.sp can.desc
      (throw_within x is s k s.regs.pc (inl (imm, does, refl)) m b search)
      (sym (reached_by_sp (goal_of b) next x.image n.frame.site n.frame.r n.frame.sp n.first n.more n.register)
      ∙ throw_reaches x is s k s.regs.pc (inl (imm, does, refl)) m b search vrs pad next at is_there)
      (pad_event event.Cleanup pad (slice_index n.frame.r SP) 0) (subst Corresponds whole still))
