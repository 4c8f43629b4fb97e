use Rattle.link_index_laws.proofs.Rising.{law_of_assembled_rows}
use Rattle.link_index_laws.proofs.assembled_rows_lie.Goals as goal

pub returns : goal.returns
returns c = law_of_assembled_rows
