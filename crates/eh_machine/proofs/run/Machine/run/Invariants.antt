use Rattle.std.proofs.Common.{◌≡◌, IfSome}
use Rattle.run_events.proofs.Progress.{Progress}
use Rattle.run_gates.proofs.Loops.{GivenProgress}
use Rattle.eh_gates.specs.State.{State, state_of}
use Rattle.sim_machines.specs.Machine.{machine_of}
use Rattle.thumb_core.specs.declared.ends.End.{End}
use Rattle.sim_machines.specs.Checked.{program_of}
use Rattle.eh_machine.specs.Cached.{IsCache, IsConfirmed}
use Rattle.eh_machine.proofs.run.Machine.run.Given as goal

-- what was done and what is left are the whole run, no count has changed, and the cache is of the program
abbrev pub invariant-loop-left : goal.invariant-loop-left
invariant-loop-left g l = record {
  progress : IfSome (g.I.Source.left l.initial.input) (λ bytes. Progress State End (machine_of (program_of l.initial.self.accepted.now)) l.initial.self.left
      (state_of l.initial.self.core (g.B.Bus.memory l.initial.self.shared.bus) l.initial.self.events) bytes
      l.left (state_of l.self.core (g.B.Bus.memory l.self.shared.bus) l.self.events) (g.I.Source.left l.input) (g.O.Sink.written l.initial.out) (g.O.Sink.written l.out));
  given : GivenProgress State End (machine_of (program_of l.initial.self.accepted.now)) l.initial.self.left
      (state_of l.initial.self.core (g.B.Bus.memory l.initial.self.shared.bus) l.initial.self.events)
      l.left (state_of l.self.core (g.B.Bus.memory l.self.shared.bus) l.self.events) (g.O.Sink.written l.initial.out) (g.O.Sink.written l.out);
  input_kept : g.I.Source.faults l.input ≡ g.I.Source.faults l.initial.input;
  out_kept : g.O.Sink.faults l.out ≡ g.O.Sink.faults l.initial.out;
  same : l.self.accepted ≡ l.initial.self.accepted;
  cache : IsCache (program_of l.initial.self.accepted.now) l.cache;
  confirmed : IsConfirmed (g.B.Bus.memory l.self.shared.bus) l.cache;
}

abbrev pub decreases-loop-left : goal.decreases-loop-left
decreases-loop-left g l = l.left
