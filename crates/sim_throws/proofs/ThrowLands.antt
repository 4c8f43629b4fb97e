-- A throw whose search finds a barrier enters something, in an activation of the state: its phase 2 never ends without.
use Rattle.std.proofs.Common.{◌≡◌, ℕ, sym, ap, ◌∙◌, Option, Some, None, refl, [], ◌∷◌, subst, arith}
use Rattle.std.specs.Prelude.{unwrap_or, slice_index}
use Rattle.std.proofs.lemmas.List.{get_or_append_left}
use Rattle.eh_phase.specs.Laws.{entered_through, goal_of, Reaches}
use Rattle.eh_phase.specs.Phases.{Frames, phase2, enter_at_place, places, phase1}
use Rattle.eh_phase.specs.declared.phase2.Goal.{Goal}
use Rattle.eh_phase.proofs.Speaks.{registers_are_handed_on}
use Rattle.sim_machines.specs.Agreeing.{preserved_registers, Agree}
use Rattle.eh_phase.specs.declared.phase2.Entered.{Entered}
use Rattle.eh_phase.specs.Firsts.{first_some}
use Rattle.eh_phase.specs.Calls.{stack_of}
use Rattle.eh_phase.specs.Frames.{frames_of}
use Rattle.eh_phase.specs.Verdict.{Meeting}
use Rattle.eh_phase.specs.declared.phase1.Barrier.{Barrier}
use Rattle.eh_phase.proofs.Reached.{barriers_are_reached}
use Rattle.thumb_core.specs.Registers.{all_of}
use Rattle.thumb_core.specs.declared.regs.TheConstants.{SP}
use Rattle.sim_machines.specs.frame_check.Accepts.{Accepted}
use Rattle.eh_cxa.specs.ListCalls.{innermost_in}
use Rattle.sim_machines.specs.Activations.{Recorded, reg_in, memory_of, first_place, frames_at, cleanups_in}
use Rattle.sim_machines.specs.Landings.{AreBelow}
use Rattle.sim_machines.proofs.Agreeing.{are_one}
use Rattle.eh_phase.specs.Laws as phase_law
use Rattle.eh_phase.specs.declared.phase2.Entered.TheVariants as enters
use Rattle.eh_phase.specs.declared.phase1.Found.TheVariants as found
use Rattle.sim_frames.specs.Frames.{ThrowsAt, FramesAre}
use Rattle.sim_frames.specs.sim_relation.Stands.{Keeps, IsProgram}
use Rattle.sim_frames.proofs.FramesSame.{frames_are_same}
use Rattle.sim_frames.proofs.sim_relation.Goes.{chain_top}
use Rattle.sim_frames.specs.Landings.{Fit, LandsIn}
use Rattle.sim_frames.proofs.Landing.{lands_in, fit_frames, rise_outside}

-- ---- frames that agree are entered alike

entered_alike : (fs gs : Frames) → Agree fs gs → (g : Goal) (from : ℕ) → entered_through preserved_registers (phase2 g from fs) ≡ entered_through preserved_registers (phase2 g from gs)
entered_alike fs gs e g from =
    sym ((registers_are_handed_on preserved_registers fs).advance g from) ∙ ap (phase2 g from) e ∙ (registers_are_handed_on preserved_registers gs).advance g from

lands_alike : (e d : Entered) → entered_through preserved_registers e ≡ entered_through preserved_registers d → phase_law.Lands e → phase_law.Lands d
lands_alike e (enters.Cleanup vrs pad next site) h l = tt
lands_alike e (enters.Catch vrs pad) h l = tt
lands_alike e (enters.Spec vrs pad) h l = tt
lands_alike e enters.Unexpected h l = tt
lands_alike (enters.Cleanup vrs pad next site) (enters.Terminate why) h l = absurd cc
lands_alike (enters.Catch vrs pad) (enters.Terminate why) h l = absurd cc
lands_alike (enters.Spec vrs pad) (enters.Terminate why) h l = absurd cc
lands_alike enters.Unexpected (enters.Terminate why) h l = absurd cc
lands_alike (enters.Terminate why) (enters.Terminate other) h l = absurd l

-- what lands was entered at a place
entered_some : (g : Goal) (from : ℕ) (fs : Frames) → phase_law.Lands (phase2 g from fs) → first_some (enter_at_place g) (places from fs.frames) ≡ Some (phase2 g from fs)
unfolding phase2
entered_some g from fs l = go (first_some (enter_at_place g) (places from fs.frames)) l
  where
    go : (o : Option Entered) → phase_law.Lands (unwrap_or o (enters.Terminate fs.last)) → o ≡ Some (unwrap_or o (enters.Terminate fs.last))
    go None l = absurd l
    go (Some e) l = refl

-- ---- from a site of a state

module _ (x : Accepted) (is : IsProgram x) (s : Recorded) (k : Keeps x s) (site : ℕ) (throws : ThrowsAt x s site) where
  abbrev pub recorded_frames : Option ℕ → Frames
  recorded_frames place = frames_at x.image place site (all_of s.regs) s.first s.outer

  same : FramesAre x s site
  same = frames_are_same x s site is k throws

  -- where phase 1 gives a barrier, phase 2 enters a cleanup or the barrier
  pub enters_one : (m : Meeting) (b : Barrier) → phase1 m (recorded_frames (first_place s.cleanups)) ≡ found.Barrier b → phase_law.Lands (phase2 (goal_of b) 0 (recorded_frames None))
  enters_one m b e =
      let bytes = (are_one _ _ same.limited).search m ∙ e in
      let reaches : Reaches m b (frames_of x.image (stack_of (memory_of s)) None site (all_of s.regs)) =
      barriers_are_reached m x.image (stack_of (memory_of s)) (innermost_in (cleanups_in s.cleanups)) site (all_of s.regs) b bytes in
      lands_alike reaches.entered (phase2 (goal_of b) 0 (recorded_frames None))
      (ap (entered_through preserved_registers) (sym reaches.enters) ∙ entered_alike (frames_of x.image (stack_of (memory_of s)) None site (all_of s.regs)) (recorded_frames None) same.all (goal_of b) 0) reaches.lands

  pub sp_is : slice_index (all_of s.regs) SP ≡ reg_in s SP
  sp_is = get_or_append_left s.regs.r (s.regs.pc ∷ []) 0 13 (let count = k.sound.words.count in omega (arith, count))

  -- in an activation: those inside it are cut, and their slots lie in home and below what is entered
  pub throw_lands : (m : Meeting) (b : Barrier) → phase1 m (recorded_frames (first_place s.cleanups)) ≡ found.Barrier b
      → LandsIn (goal_of b) 0 s.home.1 (reg_in s SP) (recorded_frames None).frames (s.first ∷ s.outer) (phase2 (goal_of b) 0 (recorded_frames None))
  throw_lands m b e =
      let top = chain_top x s.segments s.home s.first.caller s.outer k.chain in
      let high = k.high in
      lands_in (goal_of b) 0 s.home.1 (reg_in s SP) (recorded_frames None).frames (s.first ∷ s.outer) (phase2 (goal_of b) 0 (recorded_frames None)) (omega (arith, high, top))
      (subst (λ (n : ℕ). Fit n (recorded_frames None).frames (s.first ∷ s.outer)) sp_is (fit_frames x s.segments s.home None site (all_of s.regs) s.first s.outer k.whole k.chain))
      (k.slots, high, top, rise_outside x s.segments s.home s.first.caller s.outer k.chain)
      (entered_some (goal_of b) 0 (recorded_frames None) (enters_one m b e))

  -- the slots of what is cut
  pub throw_cuts : (m : Meeting) (b : Barrier) (e : phase1 m (recorded_frames (first_place s.cleanups)) ≡ found.Barrier b) → AreBelow s (throw_lands m b e).cut (throw_lands m b e).frame.sp
  throw_cuts m b e q h =
      let w = (throw_lands m b e).below q h in
      let low = k.low in
      let x0 = w.0 in
      (omega (arith, low, x0), w.1)
