use Rattle.sim_relation.proofs.First.{starts_stand}
use Rattle.sim_relation.proofs.starts_stand.Goals as goal

pub returns : goal.returns
returns c = starts_stand
