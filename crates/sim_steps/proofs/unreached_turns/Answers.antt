use Rattle.sim_steps.proofs.Cases as cases
use Rattle.sim_steps.proofs.unreached_turns.Goals as goal

pub returns : goal.returns
returns c = cases.unreached_turns
