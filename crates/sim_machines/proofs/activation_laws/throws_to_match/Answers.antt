use Rattle.sim_machines.proofs.Flying.{throws_to_match}
use Rattle.sim_machines.proofs.activation_laws.throws_to_match.Goals as goal

pub returns : goal.returns
returns c = throws_to_match
