use Rattle.gnu_compact.proofs.Tables.{law_of_tables}
use Rattle.gnu_compact.proofs.tables_are_read_as_written.Goals as goal

pub returns : goal.returns
returns c = law_of_tables
