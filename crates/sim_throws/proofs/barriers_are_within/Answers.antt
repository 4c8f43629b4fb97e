use Rattle.sim_throws.proofs.Bounds.{barrier_within}
use Rattle.sim_throws.proofs.barriers_are_within.Goals as goal

pub returns : goal.returns
returns c = barrier_within
