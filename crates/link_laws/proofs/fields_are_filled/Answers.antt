use Rattle.link_laws.proofs.Filled.{law_of_filled}
use Rattle.link_laws.proofs.fields_are_filled.Goals as goal

pub returns : goal.returns
returns c = law_of_filled
