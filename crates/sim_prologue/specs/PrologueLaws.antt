-- Before a prologue's end no paths join: at each place of its straight-line run, every state of facts is what the run itself knows.
use Rattle.std.specs.Prelude.{◌≡◌, ℕ, ◌+◌, ◌%◌, ◌^◌, ◌≤◌}
use Rattle.frame_facts.specs.declared.facts.Fact.{Fact}
use Rattle.frame_facts.specs.declared.straight.Straight.{Straight}
use Rattle.frame_graph.specs.FlowGraph.{FlowGraph}
use Rattle.frame_reach.specs.Marks.{Marks, AreMarks}
use Rattle.frame_reach.specs.Laws.{IsRun, Continues}
use Rattle.sim_code.specs.frame_flow.Flows.{IsStateOf}
use Rattle.sim_code.specs.frame_check.Accepts.{framed_function}

abbrev pub StatesAreTheRun : Type 0
StatesAreTheRun = (s : FlowGraph) (m : Marks) → AreMarks s m → s.start % 2 ≡ 0 → s.end + 4 ≤ 2 ^ 32 → (p : ℕ) (f : Fact) → IsStateOf (framed_function s m) p f → (run : Straight) → IsRun s m p run
    → Continues s m p run → f ≡ run.fact
