use Rattle.eh_table_laws.proofs.Moving.{raises, lowers, least_long_raise, long_raises, takes, kept_takes}
use Rattle.eh_table_laws.proofs.code_bytes.stack_pointers_move.Goals as goal

pub returns : goal.returns
returns c = record { raise = raises; lower = lowers; least = least_long_raise; long = long_raises; take = takes; kept = kept_takes }
