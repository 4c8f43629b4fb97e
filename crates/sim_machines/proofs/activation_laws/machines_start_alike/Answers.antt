use Rattle.sim_machines.proofs.FirstEvent.{start_alike}
use Rattle.sim_machines.proofs.activation_laws.machines_start_alike.Goals as goal

pub returns : goal.returns
returns c = start_alike
