use Rattle.std.proofs.Common.{ℕ, false, slice_index_or, sym, ◌∙◌}
use Rattle.frame_graph.proofs.NoLowering.{lowers_nowhere}
use Rattle.frame_flow.proofs.framed.FramedFunction.lowers_at.Goals as goal

pub returns-else-sets_sp : goal.returns-else-sets_sp
returns-else-sets_sp c =
    c.if-sets_sp.false
    ∙ lowers_nowhere c.args.self.now.flow_graph (λ (p : ℕ). slice_index_or c.args.self.now.reached p false) c.args.place c.args.i.now c.requires (sym c.sets_sp.ensures ∙ c.if-sets_sp.false)
