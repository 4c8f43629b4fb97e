use Rattle.link_index_laws.proofs.Tables.{law_of_tables}
use Rattle.link_index_laws.proofs.tables_are_there.Goals as goal

pub returns : goal.returns
returns c = law_of_tables
