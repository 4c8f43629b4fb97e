use Rattle.eh_table_laws.proofs.Marked.{everything_is_caught, everything_fails, types_are_caught, no_type_is_caught}
use Rattle.eh_table_laws.proofs.descriptors.catches_are_read.Goals as goal

pub returns : goal.returns
returns c = record { all = everything_is_caught; fails = everything_fails; types = types_are_caught; none = no_type_is_caught }
