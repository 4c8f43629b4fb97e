use Rattle.sim_machines.proofs.Returning.{returns_match}
use Rattle.sim_machines.proofs.activation_laws.returns_match.Goals as goal

pub returns : goal.returns
returns c = returns_match
