use Rattle.frame_reach.proofs.Existing.{marks_agree}
use Rattle.frame_reach.proofs.laws.marks_agree.Goals as goal

pub returns : goal.returns
returns c = marks_agree
