use Rattle.sim_event_laws.proofs.Tests.{go_on}
use Rattle.sim_event_laws.proofs.events_go_on.Goals as goal

pub returns : goal.returns
returns c = go_on
