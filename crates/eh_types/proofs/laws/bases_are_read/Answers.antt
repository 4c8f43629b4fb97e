use Rattle.eh_types.proofs.Written.{bases_are_read}
use Rattle.eh_types.proofs.laws.bases_are_read.Goals as goal

pub returns : goal.returns
returns c = bases_are_read
