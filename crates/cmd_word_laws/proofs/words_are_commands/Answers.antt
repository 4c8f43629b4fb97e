use Rattle.cmd_word_laws.proofs.Words.{commands}
use Rattle.cmd_word_laws.proofs.words_are_commands.Goals as goal

pub returns : goal.returns
returns c = commands
