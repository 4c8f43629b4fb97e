use Rattle.gnu_lsda.proofs.Bounds.{law_of_records, law_of_few}
use Rattle.gnu_lsda.proofs.laws.records_take_four_bytes.Goals as goal

pub returns : goal.returns
returns c = record { bytes = law_of_records; few = law_of_few }
