use Rattle.sim_accesses.proofs.BxTurns.{bx_turns}
use Rattle.sim_accesses.proofs.bx_turns.Goals as goal

pub returns : goal.returns
returns c = bx_turns
