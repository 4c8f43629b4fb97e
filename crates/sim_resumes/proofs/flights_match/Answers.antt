use Rattle.sim_resumes.proofs.FlyFrom.{flights_match}
use Rattle.sim_resumes.proofs.flights_match.Goals as goal

pub returns : goal.returns
returns c = flights_match
