use Rattle.sim_runs.proofs.WholeRuns.{runs_same}
use Rattle.sim_runs.proofs.runs_same.Goals as goal

pub returns : goal.returns
returns c = runs_same
