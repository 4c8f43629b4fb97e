use Rattle.frame_audit.proofs.Listed.{lists_whole}
use Rattle.frame_audit.proofs.laws.lists_are_whole.Goals as goal

pub returns : goal.returns
returns c = lists_whole
