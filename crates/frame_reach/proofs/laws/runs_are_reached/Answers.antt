use Rattle.frame_reach.proofs.Runs.{runs_are_reached}
use Rattle.frame_reach.proofs.laws.runs_are_reached.Goals as goal

pub returns : goal.returns
returns c = runs_are_reached
