use Rattle.eh_walk.proofs.ForcedActs.{forcings_same}
use Rattle.eh_walk.proofs.laws.forcings_same.Goals as goal

pub returns : goal.returns
returns c = forcings_same
