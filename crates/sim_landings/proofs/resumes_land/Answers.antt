use Rattle.sim_landings.proofs.Runs.{resumes_land}
use Rattle.sim_landings.proofs.resumes_land.Goals as goal

pub returns : goal.returns
returns c = resumes_land
