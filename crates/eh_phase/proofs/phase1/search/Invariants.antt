use Rattle.std.proofs.Common.{◌≡◌, Ok}
use Rattle.eh_phase.specs.Phases.{phase1}
use Rattle.eh_phase.specs.Frames.{frames_of}
use Rattle.eh_phase.specs.Calls.{meeting, stack_of}
use Rattle.eh_phase.specs.Passed.{verdict_or_codes}
use Rattle.eh_phase.proofs.Steps.{Searches, height_of}
use Rattle.eh_phase.proofs.phase1.search.Given as goal

abbrev pub invariant-loop-cause : goal.invariant-loop-cause
invariant-loop-cause g l =
    let segments = (g.B.Bus.memory l.bus).segments in
    let stack = stack_of (g.B.Bus.memory l.bus) in
    let m = meeting l.t.index l.t.types.now segments l.what in
    Searches m l.t.index stack l.limit (phase1 m (frames_of l.t.index stack l.limit l.fn.site l.from.r)) l.cursor
    × (l.here.site ≡ l.cursor.site)
    × (verdict_or_codes m l.t.index l.here.site ≡ Ok l.here.codes)

abbrev pub decreases-loop-cause : goal.decreases-loop-cause
decreases-loop-cause g l = height_of (stack_of (g.B.Bus.memory l.bus)) l.cursor
