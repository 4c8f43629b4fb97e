use Rattle.std.proofs.Common.{◌≡◌, IfSome}
use Rattle.run_events.proofs.Progress.{Progress}
use Rattle.run_gates.proofs.Loops.{GivenProgress}
use Rattle.eh_gates.specs.State.{State, state_of}
use Rattle.thumb_core.specs.declared.ends.End.{End}
use Rattle.sim_machines.specs.Checked.{program_of}
use Rattle.gnu_machine.specs.GnuMachine.{gnu_machine_of}
use Rattle.gnu_machine.proofs.run.gnu_run.Given as goal

-- what was done and what is left are the whole run, and no count has changed
abbrev pub invariant-loop-machine : goal.invariant-loop-machine
invariant-loop-machine g l = record {
  progress : IfSome (g.I.Source.left l.initial.input) (λ bytes. Progress State End (gnu_machine_of (program_of l.initial.machine.accepted.now) l.initial.filters) l.initial.machine.left
      (state_of l.initial.machine.core (g.B.Bus.memory l.initial.machine.shared.bus) l.initial.machine.events) bytes
      l.machine.left (state_of l.machine.core (g.B.Bus.memory l.machine.shared.bus) l.machine.events) (g.I.Source.left l.input) (g.O.Sink.written l.initial.out) (g.O.Sink.written l.out));
  given : GivenProgress State End (gnu_machine_of (program_of l.initial.machine.accepted.now) l.initial.filters) l.initial.machine.left
      (state_of l.initial.machine.core (g.B.Bus.memory l.initial.machine.shared.bus) l.initial.machine.events)
      l.machine.left (state_of l.machine.core (g.B.Bus.memory l.machine.shared.bus) l.machine.events) (g.O.Sink.written l.initial.out) (g.O.Sink.written l.out);
  input_kept : g.I.Source.faults l.input ≡ g.I.Source.faults l.initial.input;
  out_kept : g.O.Sink.faults l.out ≡ g.O.Sink.faults l.initial.out;
  same : l.machine.accepted ≡ l.initial.machine.accepted;
}

abbrev pub decreases-loop-machine : goal.decreases-loop-machine
decreases-loop-machine g l = l.machine.left
