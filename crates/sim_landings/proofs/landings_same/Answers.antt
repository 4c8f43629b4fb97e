use Rattle.sim_landings.proofs.SameLandings.{landings_same}
use Rattle.sim_landings.proofs.landings_same.Goals as goal

pub returns : goal.returns
returns c = landings_same
