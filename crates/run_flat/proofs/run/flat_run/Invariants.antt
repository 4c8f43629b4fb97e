use Rattle.std.proofs.Common.{◌≤◌, IfSome}
use Rattle.run_events.proofs.Progress.{Progress}
use Rattle.run_gates.proofs.Loops.{GivenProgress}
use Rattle.run_images.specs.Start.{State}
use Rattle.run_flat.specs.Cached.{IsCache}
use Rattle.run_flat.specs.Machine.{flat_machine}
use Rattle.thumb_core.specs.declared.ends.End.{End}
use Rattle.run_flat.proofs.run.flat_run.Given as goal

-- what was done and what is left are the whole run, the cache has what halfwords mean, and no count has fallen
abbrev pub invariant-loop-left : goal.invariant-loop-left
invariant-loop-left g l = record {
  progress : IfSome (g.I.Source.left l.initial.input) (λ bytes. Progress State End flat_machine l.budget
      (record { regs = l.initial.regs; memory = g.B.Bus.memory l.initial.bus }) bytes
      l.left (record { regs = l.regs; memory = g.B.Bus.memory l.bus }) (g.I.Source.left l.input) (g.O.Sink.written l.initial.out) (g.O.Sink.written l.out));
  given : GivenProgress State End flat_machine l.budget (record { regs = l.initial.regs; memory = g.B.Bus.memory l.initial.bus })
      l.left (record { regs = l.regs; memory = g.B.Bus.memory l.bus }) (g.O.Sink.written l.initial.out) (g.O.Sink.written l.out);
  cache : IsCache l.cache;
  input_later : g.I.Source.faults l.initial.input ≤ g.I.Source.faults l.input;
  out_later : g.O.Sink.faults l.initial.out ≤ g.O.Sink.faults l.out;
}

abbrev pub decreases-loop-left : goal.decreases-loop-left
decreases-loop-left g l = l.left
