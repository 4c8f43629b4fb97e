use Rattle.frame_reach.proofs.Others.{others_are_after}
use Rattle.frame_reach.proofs.laws.others_are_after.Goals as goal

pub returns : goal.returns
returns c = others_are_after
