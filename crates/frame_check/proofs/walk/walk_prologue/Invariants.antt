use Rattle.std.proofs.Common.{◌≡◌, ◌-◌}
use Rattle.frame_facts.specs.Prologues.{run_on}
use Rattle.frame_reach.specs.Prologue.{lines, places, prologue}
use Rattle.frame_reach.specs.Held.{marks_of}
use Rattle.frame_check.proofs.Walking.{Goes}
use Rattle.frame_check.proofs.walk.walk_prologue.Given as goal

abbrev pub invariant-loop-step : goal.invariant-loop-step
invariant-loop-step l = record {
  run : (run_on l.run (lines l.flow_graph (marks_of l.reached).target (places l.flow_graph - l.step) l.place)).prologue ≡ prologue l.flow_graph (marks_of l.reached);
  found : Goes l.flow_graph (marks_of l.reached).target l.pushes.items l.run l.step l.place;
}
