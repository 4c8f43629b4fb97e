use Rattle.std.proofs.Common.{ℕ, false, slice_index_or, sym, ◌∙◌}
use Rattle.frame_graph.proofs.NoLowering.{no_copy}
use Rattle.frame_graph.proofs.flow_graph.FlowGraph.is_lowering.Goals as goal

pub returns-else-sets_sp : goal.returns-else-sets_sp
returns-else-sets_sp c =
    c.if-sets_sp.false
    ∙ no_copy c.args.self.now (λ (p : ℕ). slice_index_or c.args.reached.now p false) c.args.place c.standing_at-standing.result c.standing_at-standing.ensures (sym c.sets_sp.ensures ∙ c.if-sets_sp.false)
