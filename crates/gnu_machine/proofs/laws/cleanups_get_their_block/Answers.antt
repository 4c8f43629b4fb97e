use Rattle.gnu_machine.proofs.Pads.{cleanups}
use Rattle.gnu_machine.proofs.laws.cleanups_get_their_block.Goals as goal

pub returns : goal.returns
returns c = cleanups
