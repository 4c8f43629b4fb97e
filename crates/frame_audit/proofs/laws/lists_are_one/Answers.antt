use Rattle.frame_audit.proofs.Listed.{lists_one}
use Rattle.frame_audit.proofs.laws.lists_are_one.Goals as goal

pub returns : goal.returns
returns c = lists_one
