use Rattle.frame_flow.proofs.Conditions.{causes_are_conditions}
use Rattle.frame_flow.proofs.laws.causes_are_conditions.Goals as goal

pub returns : goal.returns
returns c = causes_are_conditions
