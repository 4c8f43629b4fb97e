use Rattle.eh_table_laws.proofs.Marked.{specifications_are_read, padded_specifications_are_read}
use Rattle.eh_table_laws.proofs.descriptors.specifications_are_read.Goals as goal

pub returns : goal.returns
returns c = record { plain = specifications_are_read; padded = padded_specifications_are_read }
