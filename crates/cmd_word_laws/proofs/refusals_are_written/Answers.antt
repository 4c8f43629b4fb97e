use Rattle.cmd_word_laws.proofs.Lines.{refusals}
use Rattle.cmd_word_laws.proofs.refusals_are_written.Goals as goal

pub returns : goal.returns
returns c = refusals
