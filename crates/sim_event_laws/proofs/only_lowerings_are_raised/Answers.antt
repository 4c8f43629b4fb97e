use Rattle.sim_event_laws.proofs.Stack.{only_raised}
use Rattle.sim_event_laws.proofs.only_lowerings_are_raised.Goals as goal

pub returns : goal.returns
returns c = only_raised
