use Rattle.std.proofs.Common.{ap}
use Rattle.frame_graph.specs.FlowGraph.{FlowGraph}
use Rattle.frame_graph.proofs.Stretches.{at_hand_of}
use Rattle.frame_graph.proofs.flow_graph.FlowGraph.answer_by_entry.Goals as goal

pub answer_by_items-requires-then-holds-clause-same : goal.answer_by_items-requires-then-holds-clause-same
answer_by_items-requires-then-holds-clause-same c =
    at_hand_of c.args.self.now _ c.self.inside.entry c.args.e.now c.self.inside.span c.in-Some.span c.self.inside.near.now (ap (λ (s : FlowGraph). s.image) c.self.view_is) (c.is_entry.ensures c.if-not-is_entry.false) c.in-Some.is c.self.invariant.1
