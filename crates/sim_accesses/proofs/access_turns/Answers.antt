use Rattle.sim_accesses.proofs.Events.{accesses}
use Rattle.sim_accesses.proofs.access_turns.Goals as goal

pub returns : goal.returns
returns c = accesses
