use Rattle.asm_line_laws.proofs.Spelling.{lines_written}
use Rattle.asm_line_laws.proofs.lines_are_the_written_ones.Goals as goal

pub returns : goal.returns
returns c = lines_written
