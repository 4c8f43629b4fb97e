use Rattle.link_laws.proofs.AssembledLaws.{law_of_assembled}
use Rattle.link_laws.proofs.assembled_fields_stand_alone.Goals as goal

pub returns : goal.returns
returns c = law_of_assembled
