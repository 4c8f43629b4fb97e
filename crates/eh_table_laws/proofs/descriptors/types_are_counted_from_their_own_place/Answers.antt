use Rattle.eh_table_laws.proofs.Named.{specification_types}
use Rattle.eh_table_laws.proofs.descriptors.types_are_counted_from_their_own_place.Goals as goal

pub returns : goal.returns
returns c = specification_types
