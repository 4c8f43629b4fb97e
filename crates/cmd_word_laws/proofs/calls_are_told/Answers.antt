use Rattle.cmd_word_laws.proofs.Calls.{calls}
use Rattle.cmd_word_laws.proofs.calls_are_told.Goals as goal

pub returns : goal.returns
returns c = calls
