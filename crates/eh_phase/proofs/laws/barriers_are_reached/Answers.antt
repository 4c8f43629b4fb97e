use Rattle.eh_phase.proofs.Reached.{barriers_are_reached}
use Rattle.eh_phase.proofs.laws.barriers_are_reached.Goals as goal

pub returns : goal.returns
returns c = barriers_are_reached
