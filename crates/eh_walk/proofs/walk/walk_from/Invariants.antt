use Rattle.std.proofs.Common.{None, ◌-◌, length}
use Rattle.eh_phase.specs.Calls.{stack_of}
use Rattle.eh_phase.specs.Frames.{frames_of}
use Rattle.thumb_core.specs.Registers.{all_of}
use Rattle.eh_walk.proofs.Advance.{Walked}
use Rattle.eh_walk.proofs.walk.walk_from.Given as goal

-- what is shown of the frames so far and of those from the place on is shown of all
abbrev pub invariant-loop-at : goal.invariant-loop-at
invariant-loop-at g l =
    let stack = stack_of (g.B.Bus.memory l.bus) in
    Walked l.t.index stack l.most (frames_of l.t.index stack None l.fn.site (all_of l.fn.regs)) l.at l.frames.items

abbrev pub decreases-loop-at : goal.decreases-loop-at
decreases-loop-at g l = l.most - length l.frames.items
