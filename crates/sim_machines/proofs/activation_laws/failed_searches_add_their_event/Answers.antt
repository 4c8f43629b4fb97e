use Rattle.sim_machines.proofs.RecordedGates.{searches_fail}
use Rattle.sim_machines.proofs.activation_laws.failed_searches_add_their_event.Goals as goal

pub returns : goal.returns
returns c = searches_fail
