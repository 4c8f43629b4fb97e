use Rattle.sim_steps.proofs.Calls as calls
use Rattle.sim_steps.proofs.bl_turns.Goals as goal

pub returns : goal.returns
returns c = calls.bl_turns
