use Rattle.sim_event_laws.proofs.GoingOn.{fall_off}
use Rattle.sim_event_laws.proofs.gates_fall_off.Goals as goal

pub returns : goal.returns
returns c = fall_off
