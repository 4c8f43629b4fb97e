use Rattle.thread_memory.specs.Seen.{thread_view}
use Rattle.eh_threads.proofs.element.Threads.element.Goals as goal

pub element_confirmed-requires-clause-ready : goal.element_confirmed-requires-clause-ready
element_confirmed-requires-clause-ready g c =
    c.doubt.ensures.ready (thread_view (g.B.Bus.memory c.args.self.now.shared.bus.inner) c.args.self.now.shared.bus.guards c.args.self.now.shared.bus.thread)
