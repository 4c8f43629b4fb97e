use Rattle.sim_changes.proofs.Starting.{starts}
use Rattle.sim_changes.proofs.free_starts.Goals as goal

pub returns : goal.returns
returns c = starts
