use Rattle.sim_steps.proofs.Calls as calls
use Rattle.sim_steps.proofs.blx_turns.Goals as goal

pub returns : goal.returns
returns c = calls.blx_turns
