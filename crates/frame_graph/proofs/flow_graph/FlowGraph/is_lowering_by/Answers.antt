use Rattle.std.proofs.Common.{arith, false, slice_index_or}
use Rattle.frame_graph.proofs.Lowered.{lowered_at}
use Rattle.frame_graph.proofs.flow_graph.FlowGraph.is_lowering_by.Goals as goal

pub returns : goal.returns
returns c =
    lowered_at c.args.self.now (λ p. slice_index_or c.args.reached.now p false) c.args.place c.is_marked.result c.is_marked-2.result c.are_lowering.result c.standing_at.result c.args.standing
    (omega arith) c.is_marked.ensures c.is_marked-2.ensures c.standing_at.ensures c.requires c.are_lowering.ensures
