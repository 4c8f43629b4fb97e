use Rattle.sim_changes.proofs.Barred.{free_barriers}
use Rattle.sim_changes.proofs.free_barriers.Goals as goal

pub returns : goal.returns
returns c = free_barriers
