use Rattle.sim_runs.proofs.WholeRuns.{runs_guard}
use Rattle.sim_runs.proofs.runs_guard.Goals as goal

pub returns : goal.returns
returns c = runs_guard
