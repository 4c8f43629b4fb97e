use Rattle.sim_event_laws.proofs.Stack.{rises}
use Rattle.sim_event_laws.proofs.rises_are_refused.Goals as goal

pub returns : goal.returns
returns c = rises
