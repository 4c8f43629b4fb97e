use Rattle.sim_resumes.proofs.FlyFrom.{searches_reach}
use Rattle.sim_resumes.proofs.searches_reach.Goals as goal

pub returns : goal.returns
returns c = searches_reach
