use Rattle.std.proofs.Common.{◌≡◌, ◌-◌}
use Rattle.eh_gates.specs.State.{state_of}
use Rattle.sim_machines.specs.Checked.{program_of}
use Rattle.eh_walk.proofs.Reaching.{Onwards}
use Rattle.eh_walk.proofs.reach.run_to_site.Given as goal

-- what was done and what is left are the whole run, and no count has changed
abbrev pub invariant-loop-done : goal.invariant-loop-done
invariant-loop-done g l = record {
  progress : Onwards (program_of l.initial.machine.accepted.now) l.initial.machine.left
      (state_of l.initial.machine.core (g.B.Bus.memory l.initial.machine.shared.bus) l.initial.machine.events) (g.I.Source.left l.initial.input)
      l.done (state_of l.machine.core (g.B.Bus.memory l.machine.shared.bus) l.machine.events) (g.I.Source.left l.input) (g.O.Sink.written l.initial.out) (g.O.Sink.written l.out);
  input_kept : g.I.Source.faults l.input ≡ g.I.Source.faults l.initial.input;
  out_kept : g.O.Sink.faults l.out ≡ g.O.Sink.faults l.initial.out;
  same : l.machine.accepted ≡ l.initial.machine.accepted;
  left : l.machine.left ≡ l.initial.machine.left - l.done;
}

abbrev pub decreases-loop-done : goal.decreases-loop-done
decreases-loop-done g l = l.most - l.done
