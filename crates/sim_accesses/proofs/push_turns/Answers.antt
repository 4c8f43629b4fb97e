use Rattle.sim_accesses.proofs.PushTurns.{pushes}
use Rattle.sim_accesses.proofs.push_turns.Goals as goal

pub returns : goal.returns
returns c = pushes
