use Rattle.frame_flow.proofs.Standing.{causes_stand}
use Rattle.frame_flow.proofs.laws.causes_stand.Goals as goal

pub returns : goal.returns
returns c = causes_stand
