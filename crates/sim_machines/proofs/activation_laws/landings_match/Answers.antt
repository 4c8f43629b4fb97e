use Rattle.sim_machines.proofs.Landed.{landings_match}
use Rattle.sim_machines.proofs.activation_laws.landings_match.Goals as goal

pub returns : goal.returns
returns c = landings_match
