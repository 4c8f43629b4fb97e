use Rattle.sim_steps.proofs.SimpleLaw.{simple_turns_law}
use Rattle.sim_steps.proofs.simple_turns.Goals as goal

pub returns : goal.returns
returns c = simple_turns_law
