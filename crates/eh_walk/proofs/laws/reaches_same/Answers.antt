use Rattle.eh_walk.proofs.Alike.{reaches_same}
use Rattle.eh_walk.proofs.laws.reaches_same.Goals as goal

pub returns : goal.returns
returns c = reaches_same
