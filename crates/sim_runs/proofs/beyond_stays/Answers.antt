use Rattle.sim_runs.proofs.BeyondStays.{beyond_stays}
use Rattle.sim_runs.proofs.beyond_stays.Goals as goal

pub returns : goal.returns
returns c = beyond_stays
