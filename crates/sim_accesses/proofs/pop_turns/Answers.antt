use Rattle.sim_accesses.proofs.PopTurns.{pops}
use Rattle.sim_accesses.proofs.pop_turns.Goals as goal

pub returns : goal.returns
returns c = pops
