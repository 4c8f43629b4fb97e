use Rattle.link_laws.proofs.Meanings.{law_of_meanings}
use Rattle.link_laws.proofs.names_have_meanings.Goals as goal

pub returns : goal.returns
returns c = law_of_meanings
