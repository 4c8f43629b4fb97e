use Rattle.sim_machines.specs.Checked.{program_of}
use Rattle.thread_memory.specs.Seen.{thread_view}
use Rattle.eh_threads.specs.Elements.{joint_of}
use Rattle.eh_threads.proofs.Running.{over_before}
use Rattle.eh_threads.proofs.element.Threads.run_schedule.Goals as goal

pub returns-in-Some-clause-told : goal.returns-in-Some-clause-told
returns-in-Some-clause-told g c =
    over_before (program_of c.args.self.now.accepted.now) c.args.schedule.now c.args.budget (joint_of c.args.self.now.threads c.args.self.now.entered c.args.self.now.owners.slots (thread_view (g.B.Bus.memory c.args.self.now.shared.bus.inner) c.args.self.now.shared.bus.guards c.args.self.now.shared.bus.thread) c.args.self.now.events c.args.self.now.tags)
    (g.I.Source.left c.args.input.now) (g.O.Sink.written c.args.out.now) c.in-Some.number c.in-Some.ensures

pub elements-requires-clause-ready : goal.elements-requires-clause-ready
elements-requires-clause-ready g c =
    c.doubt.ensures.ready (thread_view (g.B.Bus.memory c.args.self.now.shared.bus.inner) c.args.self.now.shared.bus.guards c.args.self.now.shared.bus.thread)
