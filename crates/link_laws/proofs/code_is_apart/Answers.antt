use Rattle.link_laws.proofs.Rights.{law_of_rights}
use Rattle.link_laws.proofs.code_is_apart.Goals as goal

pub returns : goal.returns
returns c = law_of_rights
