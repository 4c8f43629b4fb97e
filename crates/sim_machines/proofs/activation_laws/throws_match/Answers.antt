use Rattle.sim_machines.proofs.Throwing.{throws_match}
use Rattle.sim_machines.proofs.activation_laws.throws_match.Goals as goal

pub returns : goal.returns
returns c = throws_match
