use Rattle.std.proofs.Common.{◌∙◌, ap, sym, arith, rules, ◌<◌, ◌+◌, ◌/◌, ◌^◌}
use Rattle.frame_facts.specs.Prologues.{empty_run}
use Rattle.frame_reach.specs.Held.{marks_of}
use Rattle.frame_reach.specs.Prologue.{prologue}
use Rattle.frame_reach.proofs.Runs.{walk_start, walk_next, line_fits}
use Rattle.frame_check.proofs.Walking.{walk_starts, walk_ends, walk_goes, none_left, no_line, not_taken, run_left, run_no_line, run_not_taken, run_is}
use Rattle.frame_check.proofs.walk.walk_prologue.Goals as goal

pub loop-step-init : goal.loop-step-init
loop-step-init c = record {
  run = walk_start c.args.flow_graph.now (marks_of c.args.reached.now) c.begin-run.result (c.begin-run.ensures ∙ ap empty_run c.start.ensures);
  found = walk_starts c.args.flow_graph.now (marks_of c.args.reached.now).target c.clear.new.self.items c.begin-run.result c.clear.ensures.items (c.begin-run.ensures ∙ ap empty_run c.start.ensures);
}

pub returns-in_default-clause-prologue : goal.returns-in_default-clause-prologue
returns-in_default-clause-prologue c =
    run_is c.loop-step.run _ (prologue c.args.flow_graph.now (marks_of c.args.reached.now))
    (run_no_line c.args.flow_graph.now (marks_of c.args.reached.now).target c.loop-step.run c.loop-step.step c.loop-step.place (omega (arith, c.loop-step-test.true, c.places-step-end.ensures.count)) (sym c.line_at.ensures ∙ c.in_default.is))
    c.loop-step.invariant.run

pub returns-in_default-clause-pushes : goal.returns-in_default-clause-pushes
returns-in_default-clause-pushes c =
    walk_ends c.args.flow_graph.now (marks_of c.args.reached.now).target c.loop-step.pushes.items c.loop-step.run c.loop-step.step c.loop-step.place
    (no_line c.args.flow_graph.now (marks_of c.args.reached.now).target c.loop-step.run c.loop-step.step c.loop-step.place (omega (arith, c.loop-step-test.true, c.places-step-end.ensures.count)) (sym c.line_at.ensures ∙ c.in_default.is))
    c.loop-step.invariant.found

pub returns-in_default-taken-clause-prologue : goal.returns-in_default-taken-clause-prologue
returns-in_default-taken-clause-prologue c =
    run_is c.loop-step.run _ (prologue c.args.flow_graph.now (marks_of c.args.reached.now))
    (run_not_taken c.args.flow_graph.now (marks_of c.args.reached.now).target c.loop-step.run c.loop-step.step c.loop-step.place c.in-Some.i c.in-Some.size (omega (arith, c.loop-step-test.true, c.places-step-end.ensures.count)) (sym c.line_at.ensures ∙ c.in-Some.is) (sym c.taken.ensures ∙ c.in_default-taken.is))
    c.loop-step.invariant.run

pub returns-in_default-taken-clause-pushes : goal.returns-in_default-taken-clause-pushes
returns-in_default-taken-clause-pushes c =
    walk_ends c.args.flow_graph.now (marks_of c.args.reached.now).target c.loop-step.pushes.items c.loop-step.run c.loop-step.step c.loop-step.place
    (not_taken c.args.flow_graph.now (marks_of c.args.reached.now).target c.loop-step.run c.loop-step.step c.loop-step.place c.in-Some.i c.in-Some.size (omega (arith, c.loop-step-test.true, c.places-step-end.ensures.count)) (sym c.line_at.ensures ∙ c.in-Some.is) (sym c.taken.ensures ∙ c.in_default-taken.is))
    c.loop-step.invariant.found

pub overflow_add-place : goal.overflow_add-place
overflow_add-place c =
    let w = line_fits c.args.flow_graph.now (marks_of c.args.reached.now).target c.loop-step.place c.in-Some.i c.in-Some.size (sym c.line_at.ensures ∙ c.in-Some.is) in
    let l : c.loop-step.place + c.in-Some.size / 2 < 2 ^ 32 = omega (arith, w.0, w.1, c.places-step-end.ensures.count, c.places-step-end.ensures.few) in
    search rules

pub loop-step-preserved : goal.loop-step-preserved
loop-step-preserved c = record {
  run = walk_next c.args.flow_graph.now (marks_of c.args.reached.now) c.loop-step.run c.in-Some-taken.next c.loop-step.step c.loop-step.place c.in-Some.i c.in-Some.size (prologue c.args.flow_graph.now (marks_of c.args.reached.now))
      (omega (arith, c.loop-step-test.true, c.places-step-end.ensures.count)) (sym c.line_at.ensures ∙ c.in-Some.is) (sym c.taken.ensures ∙ c.in-Some-taken.is) c.loop-step.invariant.run;
  found = walk_goes c.args.flow_graph.now (marks_of c.args.reached.now).target c.loop-step.pushes.items c.add_push.new.pushes.items c.loop-step.run c.in-Some-taken.next c.loop-step.step c.loop-step.place c.in-Some.i
      c.in-Some.size (omega (arith, c.loop-step-test.true, c.places-step-end.ensures.count)) (sym c.line_at.ensures ∙ c.in-Some.is) (sym c.taken.ensures ∙ c.in-Some-taken.is) c.in_ok-add_push.ensures c.loop-step.invariant.found;
}

pub returns-clause-prologue : goal.returns-clause-prologue
returns-clause-prologue c =
    run_is c.loop-step.run _ (prologue c.args.flow_graph.now (marks_of c.args.reached.now))
    (run_left c.args.flow_graph.now (marks_of c.args.reached.now).target c.loop-step.run c.loop-step.step c.loop-step.place (omega (arith, c.loop-step-test.false, c.places-step-end.ensures.count)))
    c.loop-step.invariant.run

pub returns-clause-pushes : goal.returns-clause-pushes
returns-clause-pushes c =
    walk_ends c.args.flow_graph.now (marks_of c.args.reached.now).target c.loop-step.pushes.items c.loop-step.run c.loop-step.step c.loop-step.place
    (none_left c.args.flow_graph.now (marks_of c.args.reached.now).target c.loop-step.run c.loop-step.step c.loop-step.place (omega (arith, c.loop-step-test.false, c.places-step-end.ensures.count)))
    c.loop-step.invariant.found
