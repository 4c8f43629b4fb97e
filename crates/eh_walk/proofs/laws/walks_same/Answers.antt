use Rattle.eh_walk.proofs.Activations.{walks_are_same}
use Rattle.eh_walk.proofs.laws.walks_same.Goals as goal

pub returns : goal.returns
returns c = walks_are_same
