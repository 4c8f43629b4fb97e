use Rattle.cmd_word_laws.proofs.Builds.{builds}
use Rattle.cmd_word_laws.proofs.builds_are_in_order.Goals as goal

pub returns : goal.returns
returns c = builds
