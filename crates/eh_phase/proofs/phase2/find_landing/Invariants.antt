use Rattle.std.proofs.Common.{◌≡◌, Ok, None}
use Rattle.eh_phase.specs.Phases.{phase2}
use Rattle.eh_phase.specs.Frames.{frames_of}
use Rattle.eh_phase.specs.Calls.{stack_of, frame_at}
use Rattle.eh_phase.specs.Passed.{enters_at, IsQuiet}
use Rattle.eh_phase.proofs.Steps.{Advances, height_of}
use Rattle.eh_phase.proofs.phase2.find_landing.Given as goal

abbrev pub invariant-loop-cause : goal.invariant-loop-cause
invariant-loop-cause g l =
    let stack = stack_of (g.B.Bus.memory l.bus) in
    Advances l.goal l.next l.t.index stack (phase2 l.goal l.fn.next (frames_of l.t.index stack None l.fn.cursor.site l.fn.cursor.vrs.r)) l.cursor
    × (enters_at l.goal l.next l.t.index (frame_at l.cursor) ≡ Ok l.here.codes)
    × (l.next ≡ 0 → IsQuiet l.goal l.t.index l.here.site l.here.codes)

abbrev pub decreases-loop-cause : goal.decreases-loop-cause
decreases-loop-cause g l = height_of (stack_of (g.B.Bus.memory l.bus)) l.cursor
