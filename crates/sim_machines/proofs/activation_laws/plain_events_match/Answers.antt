use Rattle.sim_machines.proofs.Matching.{plain_match}
use Rattle.sim_machines.proofs.activation_laws.plain_events_match.Goals as goal

pub returns : goal.returns
returns c = plain_match
