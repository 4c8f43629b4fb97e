use Rattle.asm_laws.proofs.Standing.{law_of_rows, law_of_count}
use Rattle.asm_laws.proofs.rows_stand_at_their_functions.Goals as goal

pub returns : goal.returns
returns c = record { rows = law_of_rows; count = law_of_count }
