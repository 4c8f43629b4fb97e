use Rattle.eh_index.proofs.Written.{rows_are_read}
use Rattle.eh_index.proofs.laws.rows_are_read_as_written.Goals as goal

pub returns : goal.returns
returns c = rows_are_read
