use Rattle.sim_changes.proofs.Frees.{anywhere}
use Rattle.sim_changes.proofs.free_anywhere.Goals as goal

pub returns : goal.returns
returns c = anywhere
