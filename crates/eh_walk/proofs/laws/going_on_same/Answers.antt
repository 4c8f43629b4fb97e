use Rattle.eh_walk.proofs.Alike.{going_on_same}
use Rattle.eh_walk.proofs.laws.going_on_same.Goals as goal

pub returns : goal.returns
returns c = going_on_same
