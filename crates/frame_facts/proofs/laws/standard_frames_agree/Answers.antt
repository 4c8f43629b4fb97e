use Rattle.frame_facts.proofs.Standard.{standard}
use Rattle.frame_facts.proofs.laws.standard_frames_agree.Goals as goal

pub returns : goal.returns
returns c = standard
