use Rattle.sim_machines.proofs.FirstReturn.{first_match}
use Rattle.sim_machines.proofs.activation_laws.first_events_match.Goals as goal

pub returns : goal.returns
returns c = first_match
