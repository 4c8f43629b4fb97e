use Rattle.frame_reach.proofs.Existing.{marks_exist}
use Rattle.frame_reach.proofs.laws.marks_exist.Goals as goal

pub returns : goal.returns
returns c = marks_exist
