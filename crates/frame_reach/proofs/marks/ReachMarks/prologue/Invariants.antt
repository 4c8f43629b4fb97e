use Rattle.std.proofs.Common.{◌≡◌, ◌-◌}
use Rattle.frame_facts.specs.Prologues.{run_on}
use Rattle.frame_reach.specs.Held.{marks_of}
use Rattle.frame_reach.specs.Prologue.{places, lines, prologue}
use Rattle.frame_reach.proofs.marks.ReachMarks.prologue.Given as goal

abbrev pub invariant-loop-step : goal.invariant-loop-step
invariant-loop-step l = (run_on l.run (lines l.flow_graph (marks_of l.self).target (places l.flow_graph - l.step) l.place)).prologue ≡ prologue l.flow_graph (marks_of l.self)
