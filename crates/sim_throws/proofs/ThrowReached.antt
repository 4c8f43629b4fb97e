-- From a throw on its barrier is within reach over the frames of the recorded activations, and their descriptors stand in order.
use Rattle.std.proofs.Common.{◌≡◌, subst, List, [], ◌∷◌, map, ap, ℕ, true, None, sym, ◌∙◌}
use Rattle.std.specs.Prelude.{All}
use Rattle.std.proofs.lemmas.List.Elements.{All-head, All-tail, All-cons, All-nil}
use Rattle.eh_desc.specs.Laws.{Follow, Rise}
use Rattle.eh_phase.specs.Laws.{IsInOrder, frame_through, goal_of}
use Rattle.eh_phase.specs.Phases.{Frame, Frames, phase1}
use Rattle.sim_machines.specs.Agreeing.{preserved_registers}
use Rattle.eh_cxa.specs.ListCalls.{innermost_in}
use Rattle.eh_phase.specs.Calls.{stack_of}
use Rattle.eh_phase.specs.Cleanups.{is_reached}
use Rattle.eh_phase.specs.Frames.{MOST_FRAMES, frames_of}
use Rattle.eh_phase.specs.Verdict.{Meeting}
use Rattle.eh_phase.specs.declared.phase1.Barrier.{Barrier}
use Rattle.eh_phase.proofs.Reached.{up_to_barrier, unlimited, whole_reached}
use Rattle.eh_phase.proofs.Whole.{all_in_order}
use Rattle.thumb_core.specs.Registers.{all_of}
use Rattle.sim_machines.specs.frame_check.Accepts.{Accepted}
use Rattle.sim_machines.specs.Activations.{Recorded, memory_of, first_place, cleanups_in}
use Rattle.sim_machines.proofs.Agreeing.{are_one}
use Rattle.eh_phase.specs.declared.phase1.Found.TheVariants as found
use Rattle.sim_frames.specs.Frames.{ThrowsAt, FramesAre}
use Rattle.sim_frames.specs.sim_relation.Stands.{Keeps, IsProgram}
use Rattle.sim_frames.proofs.FramesSame.{frames_are_same}
use Rattle.sim_throws.proofs.ThrowLands.{recorded_frames}

order_moves : (f g : Frame) → f.items ≡ g.items → IsInOrder f → IsInOrder g
order_moves f g e h = record { address = h.address; follow = subst (λ items. Follow h.address items) e h.follow; rise = subst (λ items. Rise items) e h.rise }

pub order_alike : (fs gs : List Frame) → map (frame_through preserved_registers) fs ≡ map (frame_through preserved_registers) gs → All IsInOrder fs → All IsInOrder gs
order_alike [] [] e h = All-nil IsInOrder
order_alike [] (g ∷ gs) e h = absurd cc
order_alike (f ∷ fs) [] e h = absurd cc
order_alike (f ∷ fs) (g ∷ gs) e h =
    let first : frame_through preserved_registers f ≡ frame_through preserved_registers g = cc in
    let rest : map (frame_through preserved_registers) fs ≡ map (frame_through preserved_registers) gs = cc in
    All-cons IsInOrder g gs (order_moves f g (ap (λ (x : Frame). x.items) first) (All-head IsInOrder f fs h)) (order_alike fs gs rest (All-tail IsInOrder f fs h))

module _ (x : Accepted) (is : IsProgram x) (s : Recorded) (k : Keeps x s) (site : ℕ) (throws : ThrowsAt x s site) where
  same : FramesAre x s site
  same = frames_are_same x s site is k throws

  pub throw_in_order : All IsInOrder (recorded_frames x is s k site throws None).frames
  throw_in_order =
      order_alike (frames_of x.image (stack_of (memory_of s)) None site (all_of s.regs)).frames (recorded_frames x is s k site throws None).frames (ap (λ (fs : Frames). fs.frames) same.all)
      (all_in_order MOST_FRAMES x.image (stack_of (memory_of s)) None true site (all_of s.regs) is.image)

  pub throw_reached : (m : Meeting) (b : Barrier) → phase1 m (recorded_frames x is s k site throws (first_place s.cleanups)) ≡ found.Barrier b → is_reached (goal_of b) 0 (recorded_frames x is s k site throws None).frames ≡ true
  throw_reached m b e =
      let fs = recorded_frames x is s k site throws None in
      let bytes : phase1 m (frames_of x.image (stack_of (memory_of s)) None site (all_of s.regs)) ≡ found.Barrier b =
      unlimited m MOST_FRAMES x.image (stack_of (memory_of s)) (innermost_in (cleanups_in s.cleanups)) true site (all_of s.regs) b ((are_one _ _ same.limited).search m ∙ e) in
      whole_reached m b fs (up_to_barrier m fs.last b fs.frames (sym ((are_one _ _ same.all).search m) ∙ bytes))
