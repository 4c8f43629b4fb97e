use Rattle.sim_resumes.proofs.FlyFrom.{gates_fly}
use Rattle.sim_resumes.proofs.gates_fly.Goals as goal

pub returns : goal.returns
returns c = gates_fly
