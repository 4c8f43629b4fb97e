use Rattle.sim_event_laws.proofs.Stack.{never_raise}
use Rattle.sim_event_laws.proofs.lowerings_never_raise.Goals as goal

pub returns : goal.returns
returns c = never_raise
