use Rattle.sim_resumes.proofs.Resuming.{innermost_outside}
use Rattle.sim_resumes.proofs.cleanups_are_outside.Goals as goal

pub returns : goal.returns
returns c = innermost_outside
