use Rattle.sim_runs.proofs.WholeRuns.{reports_same}
use Rattle.sim_runs.proofs.reports_same.Goals as goal

pub returns : goal.returns
returns c = reports_same
