use Rattle.frame_reach.proofs.Runs.{no_target_in_the_prologue}
use Rattle.frame_reach.proofs.laws.no_target_in_the_prologue.Goals as goal

pub returns : goal.returns
returns c = no_target_in_the_prologue
