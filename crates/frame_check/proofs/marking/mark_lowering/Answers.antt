use Rattle.std.proofs.Common.{◌∙◌, sym}
use Rattle.frame_reach.specs.Held.{is_set}
use Rattle.frame_check.proofs.Judging.{one_lowered}
use Rattle.frame_check.proofs.Marked.{lowered_not}
use Rattle.frame_check.proofs.marking.mark_lowering.Goals as goal

pub returns-then-is_lowering : goal.returns-then-is_lowering
returns-then-is_lowering c =
    one_lowered c.args.flow_graph.now (is_set c.args.reached.now) c.args.place c.address_of.result c.args.roles.now c.mark_lowers.new.roles c.mark_lowers.result
    (sym c.is_lowering.ensures ∙ c.if-is_lowering.true) c.address_of.ensures c.mark_lowers.ensures

pub returns-else-is_lowering : goal.returns-else-is_lowering
returns-else-is_lowering c = lowered_not c.args.flow_graph.now (is_set c.args.reached.now) c.args.place c.args.roles.now (sym c.is_lowering.ensures ∙ c.if-is_lowering.false)
