use Rattle.sim_machines.proofs.Released.{are_released}
use Rattle.sim_machines.proofs.laws.guards_are_released.Goals as goal

pub returns : goal.returns
returns c = are_released
