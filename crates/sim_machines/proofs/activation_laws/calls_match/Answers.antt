use Rattle.sim_machines.proofs.CallEvents.{calls_match}
use Rattle.sim_machines.proofs.activation_laws.calls_match.Goals as goal

pub returns : goal.returns
returns c = calls_match
