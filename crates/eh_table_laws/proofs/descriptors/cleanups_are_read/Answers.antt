use Rattle.eh_table_laws.proofs.Scopes.{zero_ends}
use Rattle.eh_table_laws.proofs.Marked.{cleanups_are_read}
use Rattle.eh_table_laws.proofs.descriptors.cleanups_are_read.Goals as goal

pub returns : goal.returns
returns c = record { end = zero_ends; cleanup = cleanups_are_read }
