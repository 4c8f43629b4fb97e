use Rattle.link_index_laws.proofs.Reading.{law_of_reading}
use Rattle.link_index_laws.proofs.sources_are_read.Goals as goal

pub returns : goal.returns
returns c = law_of_reading
