use Rattle.eh_phase.proofs.Turns.{pads_are_in_order}
use Rattle.eh_phase.proofs.laws.pads_are_in_order.Goals as goal

pub returns : goal.returns
returns c = pads_are_in_order
