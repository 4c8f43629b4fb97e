use Rattle.sim_resumes.proofs.Ending.{ends_match}
use Rattle.sim_resumes.proofs.ends_match.Goals as goal

pub returns : goal.returns
returns c = ends_match
