use Rattle.frame_reach.specs.Held.{marks_of}
use Rattle.frame_flow.specs.Framed.{framed_view}
use Rattle.frame_check.proofs.Judging.{all_judged, framed_by}
use Rattle.frame_check.proofs.judge.check_facts.Goals as goal

pub returns-clause-refused : goal.returns-clause-refused
returns-clause-refused c =
    all_judged c.args.flow_graph.now (marks_of c.args.reached.now) (framed_view c.new-framed.result) c.solve_in.result c.requires.some c.requires.marks
    (framed_by c.args.flow_graph.now c.args.reached.now c.new-framed.result c.args.p.now c.pads.result.now c.reached.result.now c.new-framed.ensures c.requires.prologue c.pads.ensures c.reached.ensures) c.solve_in.ensures.refused
