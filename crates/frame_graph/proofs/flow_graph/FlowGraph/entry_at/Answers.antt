use Rattle.std.proofs.Common.{ap}
use Rattle.frame_graph.specs.FlowGraph.{FlowGraph}
use Rattle.frame_graph.proofs.Covered.{kept_at}
use Rattle.frame_graph.proofs.flow_graph.FlowGraph.entry_at.Goals as goal

pub returns-then-is_between : goal.returns-then-is_between
returns-then-is_between c =
    kept_at _ c.args.self.now.image c.self.inside.entry c.self.inside.last c.args.a (ap (λ (s : FlowGraph). s.image) c.self.view_is) c.self.invariant.3 (c.is_between.ensures c.if-is_between.true)
