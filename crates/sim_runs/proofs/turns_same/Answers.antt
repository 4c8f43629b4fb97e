use Rattle.sim_runs.proofs.OneEvent.{turns}
use Rattle.sim_runs.proofs.turns_same.Goals as goal

pub returns : goal.returns
returns c = turns
