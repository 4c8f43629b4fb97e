use Rattle.std.proofs.Common.{◌<◌, ◌∙◌, ◌^◌, ◌+◌, ◌/◌, ap, sym, arith, rules}
use Rattle.frame_facts.specs.Prologues.{empty_run}
use Rattle.frame_reach.specs.Held.{marks_of}
use Rattle.frame_reach.specs.Prologue.{prologue}
use Rattle.frame_reach.proofs.Runs.{walk_start, walk_next, line_fits}
use Rattle.frame_reach.proofs.marks.ReachMarks.prologue.Goals as goal

pub loop-step-init : goal.loop-step-init
loop-step-init c = walk_start c.args.flow_graph.now (marks_of c.args.self.now) c.begin-run.result (c.begin-run.ensures ∙ ap empty_run c.start.ensures)

pub overflow_add-place : goal.overflow_add-place
overflow_add-place c =
    let w = line_fits c.args.flow_graph.now (marks_of c.args.self.now).target c.loop-step.place c.in-Some.i c.in-Some.size (sym c.line_at.ensures ∙ c.in-Some.is) in
    let l : c.loop-step.place + c.in-Some.size / 2 < 2 ^ 32 = omega (arith, w.0, w.1, c.places-step-end.ensures.count, c.places-step-end.ensures.few) in
    search rules

pub loop-step-preserved : goal.loop-step-preserved
loop-step-preserved c =
    walk_next c.args.flow_graph.now (marks_of c.args.self.now) c.loop-step.run c.in-Some-taken.longer c.loop-step.step c.loop-step.place c.in-Some.i c.in-Some.size (prologue c.args.flow_graph.now (marks_of c.args.self.now))
    (omega (arith, c.loop-step-test.true, c.places-step-end.ensures.count)) (sym c.line_at.ensures ∙ c.in-Some.is) (sym c.taken.ensures ∙ c.in-Some-taken.is) c.loop-step.invariant
