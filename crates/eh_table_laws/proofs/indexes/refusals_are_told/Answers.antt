use Rattle.eh_table_laws.proofs.Told.{refusals_are_told}
use Rattle.eh_table_laws.proofs.indexes.refusals_are_told.Goals as goal

pub returns : goal.returns
returns c = refusals_are_told
