use Rattle.frame_reach.proofs.Found.{targets_are_reached}
use Rattle.frame_reach.proofs.laws.targets_are_reached.Goals as goal

pub returns : goal.returns
returns c = targets_are_reached
