use Rattle.std.proofs.Common.{refl, sym, ◌∙◌, arith}
use Rattle.eh_gates.specs.State.{state_of}
use Rattle.sim_machines.specs.Checked.{program_of}
use Rattle.eh_walk.proofs.Reaching.{starts_onward, turn_goes_on, turn_ends, stands, runs_out}
use Rattle.eh_walk.proofs.reach.run_to_site.Goals as goal

pub loop-done-init : goal.loop-done-init
loop-done-init g c = record {
  progress = starts_onward (program_of c.args.machine.now.accepted.now) c.args.machine.now.left
      (state_of c.args.machine.now.core (g.B.Bus.memory c.args.machine.now.shared.bus) c.args.machine.now.events) (g.I.Source.left c.args.input.now)
      (g.O.Sink.written c.args.out.now);
  input_kept = refl;
  out_kept = refl;
  same = refl;
  left = omega arith;
}

pub loop-done-preserved : goal.loop-done-preserved
loop-done-preserved g c = record {
  progress = turn_goes_on (program_of c.args.machine.now.accepted.now) c.args.machine.now.left
      (state_of c.args.machine.now.core (g.B.Bus.memory c.args.machine.now.shared.bus) c.args.machine.now.events) (g.I.Source.left c.args.input.now)
      c.loop-done.done
      (state_of c.loop-done.machine.core (g.B.Bus.memory c.loop-done.machine.shared.bus) c.loop-done.machine.events) (g.I.Source.left c.loop-done.input) (g.O.Sink.written c.args.out.now)
      (g.O.Sink.written c.loop-done.out) c.loop-done.invariant.progress
      _ _ _ _ refl (omega arith) (sym c.stands_there.ensures ∙ c.if-stands_there.false) c.in-Went.ensures.told;
  input_kept = c.in-Went.ensures.faults.input.kept (λ e. cc) ∙ c.loop-done.invariant.input_kept;
  out_kept = c.in-Went.ensures.faults.out.kept (λ e. cc) ∙ c.loop-done.invariant.out_kept;
  same = c.loop-done.invariant.same;
  left = omega (arith, c.budget_after_event-machine.ensures, c.loop-done.invariant.left);
}

pub returns-then-stands_there-clause-told : goal.returns-then-stands_there-clause-told
returns-then-stands_there-clause-told g c =
    stands (program_of c.args.machine.now.accepted.now) c.args.machine.now.left
    (state_of c.args.machine.now.core (g.B.Bus.memory c.args.machine.now.shared.bus) c.args.machine.now.events) (g.I.Source.left c.args.input.now) c.loop-done.done
    (state_of c.loop-done.machine.core (g.B.Bus.memory c.loop-done.machine.shared.bus) c.loop-done.machine.events) (g.I.Source.left c.loop-done.input) (g.O.Sink.written c.args.out.now)
    (g.O.Sink.written c.loop-done.out) c.loop-done.invariant.progress (omega arith) (sym c.stands_there.ensures ∙ c.if-stands_there.true)

pub returns-in-Ended-clause-told : goal.returns-in-Ended-clause-told
returns-in-Ended-clause-told g c =
    turn_ends (program_of c.args.machine.now.accepted.now) c.args.machine.now.left
    (state_of c.args.machine.now.core (g.B.Bus.memory c.args.machine.now.shared.bus) c.args.machine.now.events) (g.I.Source.left c.args.input.now) c.loop-done.done
    (state_of c.loop-done.machine.core (g.B.Bus.memory c.loop-done.machine.shared.bus) c.loop-done.machine.events) (g.I.Source.left c.loop-done.input) (g.O.Sink.written c.args.out.now)
    (g.O.Sink.written c.loop-done.out) c.loop-done.invariant.progress c.in-Ended.end _ _ _ (omega arith) (sym c.stands_there.ensures ∙ c.if-stands_there.false) c.in-Ended.ensures.told

pub returns-clause-told : goal.returns-clause-told
returns-clause-told g c =
    runs_out (program_of c.args.machine.now.accepted.now) c.args.machine.now.left
    (state_of c.args.machine.now.core (g.B.Bus.memory c.args.machine.now.shared.bus) c.args.machine.now.events) (g.I.Source.left c.args.input.now) c.loop-done.done
    (state_of c.loop-done.machine.core (g.B.Bus.memory c.loop-done.machine.shared.bus) c.loop-done.machine.events) (g.I.Source.left c.loop-done.input) (g.O.Sink.written c.args.out.now)
    (g.O.Sink.written c.loop-done.out) c.loop-done.invariant.progress (omega arith)
