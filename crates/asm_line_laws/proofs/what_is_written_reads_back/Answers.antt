use Rattle.asm_line_laws.proofs.Whole.{reads_back}
use Rattle.asm_line_laws.proofs.what_is_written_reads_back.Goals as goal

pub returns : goal.returns
returns c = reads_back
