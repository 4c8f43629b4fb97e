use Rattle.sim_event_laws.proofs.Stack.{only_rises}
use Rattle.sim_event_laws.proofs.only_rises_are_refused.Goals as goal

pub returns : goal.returns
returns c = only_rises
