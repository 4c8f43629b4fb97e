use Rattle.eh_codes.proofs.RowLaws.{law_of_rows}
use Rattle.eh_codes.proofs.RowBytes.{law_of_saying, law_of_reading}
use Rattle.eh_codes.proofs.rows_read_back.Goals as goal

pub returns : goal.returns
returns c = record { second = law_of_rows; say = law_of_saying; read = law_of_reading }
