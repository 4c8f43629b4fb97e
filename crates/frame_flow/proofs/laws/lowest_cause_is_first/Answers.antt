use Rattle.frame_flow.proofs.Rising.{lowest_is_first}
use Rattle.frame_flow.proofs.laws.lowest_cause_is_first.Goals as goal

pub returns : goal.returns
returns c = lowest_is_first
