use Rattle.asm_laws.proofs.SourceRows.{law_of_functions, law_of_rising, law_of_later_rows, law_of_lying}
use Rattle.asm_laws.proofs.rows_are_of_the_source.Goals as goal

pub returns : goal.returns
returns c = record { functions = law_of_functions; rising = law_of_rising; later = law_of_later_rows; inside = law_of_lying }
