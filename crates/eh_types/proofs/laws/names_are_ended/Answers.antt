use Rattle.eh_types.proofs.Written.{names_are_ended}
use Rattle.eh_types.proofs.laws.names_are_ended.Goals as goal

pub returns : goal.returns
returns c = names_are_ended
