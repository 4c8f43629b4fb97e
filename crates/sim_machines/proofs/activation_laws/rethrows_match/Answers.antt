use Rattle.sim_machines.proofs.Rethrowing.{rethrows_match}
use Rattle.sim_machines.proofs.activation_laws.rethrows_match.Goals as goal

pub returns : goal.returns
returns c = rethrows_match
