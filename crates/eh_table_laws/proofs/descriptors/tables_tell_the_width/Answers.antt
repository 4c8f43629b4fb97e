use Rattle.eh_table_laws.proofs.Begins.{index_zero_is_narrow, long_indices}
use Rattle.eh_table_laws.proofs.descriptors.tables_tell_the_width.Goals as goal

pub returns : goal.returns
returns c = record { zero = index_zero_is_narrow; long = long_indices }
