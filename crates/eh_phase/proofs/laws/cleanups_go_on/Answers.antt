use Rattle.eh_phase.proofs.Goes.{cleanups_go_on}
use Rattle.eh_phase.proofs.laws.cleanups_go_on.Goals as goal

pub returns : goal.returns
returns c = cleanups_go_on
