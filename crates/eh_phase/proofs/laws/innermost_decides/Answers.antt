use Rattle.eh_phase.proofs.Speaks.{innermost_decides}
use Rattle.eh_phase.proofs.laws.innermost_decides.Goals as goal

pub returns : goal.returns
returns c = innermost_decides
