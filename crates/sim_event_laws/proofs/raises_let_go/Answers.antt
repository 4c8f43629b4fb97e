use Rattle.sim_event_laws.proofs.Raises.{raises}
use Rattle.sim_event_laws.proofs.raises_let_go.Goals as goal

pub returns : goal.returns
returns c = raises c.guards_are_released.ensures
