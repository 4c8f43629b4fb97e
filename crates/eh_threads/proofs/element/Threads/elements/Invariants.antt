use Rattle.std.proofs.Common.{◌≡◌, ◌<◌, IfSome, length}
use Rattle.run_events.proofs.Progress.{Progress}
use Rattle.thumb_core.specs.declared.ends.End.{End}
use Rattle.eh_machine.specs.Ready.{IsReady}
use Rattle.sim_machines.specs.Checked.{program_of}
use Rattle.thread_memory.specs.Seen.{thread_view}
use Rattle.eh_threads.specs.Elements.{joint_of}
use Rattle.eh_threads.specs.Schedules.{SchedulePoint, at_first}
use Rattle.eh_threads.proofs.Running.{elements_of, at_place}
use Rattle.eh_threads.proofs.element.Threads.elements.Given as goal

-- what was done and what is left are the whole run, no count has changed, and what was decoded is ready for the memory
abbrev pub invariant-loop-left : goal.invariant-loop-left
invariant-loop-left g l = record {
  progress : IfSome (g.I.Source.left l.initial.input) (λ bytes. Progress SchedulePoint End (elements_of (program_of l.initial.self.accepted.now) l.schedule) l.budget
      (at_first (joint_of l.initial.self.threads l.initial.self.entered l.initial.self.owners.slots
      (thread_view (g.B.Bus.memory l.initial.self.shared.bus.inner) l.initial.self.shared.bus.guards l.initial.self.shared.bus.thread) l.initial.self.events l.initial.self.tags)) bytes
      l.left (at_place (joint_of l.self.threads l.self.entered l.self.owners.slots
      (thread_view (g.B.Bus.memory l.self.shared.bus.inner) l.self.shared.bus.guards l.self.shared.bus.thread) l.self.events l.self.tags) l.at)
      (g.I.Source.left l.input) (g.O.Sink.written l.initial.out) (g.O.Sink.written l.out));
  input_kept : g.I.Source.faults l.input ≡ g.I.Source.faults l.initial.input;
  out_kept : g.O.Sink.faults l.out ≡ g.O.Sink.faults l.initial.out;
  same : l.self.accepted ≡ l.initial.self.accepted;
  place : l.at < length l.schedule;
  ready : IsReady (thread_view (g.B.Bus.memory l.self.shared.bus.inner) l.self.shared.bus.guards l.self.shared.bus.thread) l.self.turns;
}

abbrev pub decreases-loop-left : goal.decreases-loop-left
decreases-loop-left g l = l.left
