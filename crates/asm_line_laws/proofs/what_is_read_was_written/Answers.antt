use Rattle.asm_line_laws.proofs.Taken.{was_written}
use Rattle.asm_line_laws.proofs.what_is_read_was_written.Goals as goal

pub returns : goal.returns
returns c = was_written
