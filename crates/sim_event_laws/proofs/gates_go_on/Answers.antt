use Rattle.sim_event_laws.proofs.GoingOn.{go_on}
use Rattle.sim_event_laws.proofs.gates_go_on.Goals as goal

pub returns : goal.returns
returns c = go_on
