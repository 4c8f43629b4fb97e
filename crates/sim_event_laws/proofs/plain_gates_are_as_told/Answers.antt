use Rattle.sim_event_laws.proofs.PlainGates.{as_told}
use Rattle.sim_event_laws.proofs.plain_gates_are_as_told.Goals as goal

pub returns : goal.returns
returns c = as_told
