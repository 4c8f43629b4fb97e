use Rattle.eh_phase.proofs.Speaks.{registers_are_handed_on}
use Rattle.eh_phase.proofs.laws.registers_are_handed_on.Goals as goal

pub returns : goal.returns
returns c = registers_are_handed_on
