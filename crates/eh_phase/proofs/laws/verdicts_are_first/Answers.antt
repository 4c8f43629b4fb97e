use Rattle.eh_phase.proofs.Speaks.{verdicts_are_first}
use Rattle.eh_phase.proofs.laws.verdicts_are_first.Goals as goal

pub returns : goal.returns
returns c = verdicts_are_first
