use Rattle.eh_index.proofs.Places.{tables_there}
use Rattle.eh_index.proofs.laws.tables_are_there.Goals as goal

pub returns : goal.returns
returns c = tables_there
