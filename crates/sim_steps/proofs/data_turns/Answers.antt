use Rattle.sim_steps.proofs.DataTurns.{data_turns}
use Rattle.sim_steps.proofs.data_turns.Goals as goal

pub returns : goal.returns
returns c = data_turns
