use Rattle.std.proofs.Common.{◌≡◌, None}
use Rattle.eh_phase.specs.Calls.{stack_of}
use Rattle.eh_phase.specs.Frames.{frames_of}
use Rattle.thumb_core.specs.Registers.{all_of}
use Rattle.eh_walk.specs.Stops.{stop_at}
use Rattle.eh_walk.proofs.Passing.{found_at}
use Rattle.eh_walk.proofs.stopping.stop_from.Given as goal

-- what is found from the place on is what is found from the first
abbrev pub invariant-loop-further : goal.invariant-loop-further
invariant-loop-further g l =
    let stack = stack_of (g.B.Bus.memory l.bus) in
    let low = (g.met.B.Bus.is_map l.bus).home.high in
    found_at l.t.index stack low l.sought.limit l.sought.holds l.at l.faulty l.further
    ≡ stop_at l.sought.limit l.sought.holds l.sought.number (frames_of l.t.index stack None l.fn.site (all_of l.fn.regs)).frames

abbrev pub decreases-loop-further : goal.decreases-loop-further
decreases-loop-further g l = l.further
