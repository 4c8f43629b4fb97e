use Rattle.asm_line_laws.proofs.Refusing.{stops_at_first}
use Rattle.asm_line_laws.proofs.reading_stops_at_the_first.Goals as goal

pub returns : goal.returns
returns c = stops_at_first
