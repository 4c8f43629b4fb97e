use Rattle.frame_flow.proofs.Causing.{found_are_met}
use Rattle.frame_flow.proofs.laws.found_causes_are_met.Goals as goal

pub returns : goal.returns
returns c = found_are_met
