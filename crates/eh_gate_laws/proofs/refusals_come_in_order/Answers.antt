use Rattle.eh_gate_laws.proofs.Refusals.{come_in_order}
use Rattle.eh_gate_laws.proofs.refusals_come_in_order.Goals as goal

pub returns : goal.returns
returns c = come_in_order
