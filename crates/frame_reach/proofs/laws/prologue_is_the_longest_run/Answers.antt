use Rattle.frame_reach.proofs.Runs.{prologue_is_the_longest_run}
use Rattle.frame_reach.proofs.laws.prologue_is_the_longest_run.Goals as goal

pub returns : goal.returns
returns c = prologue_is_the_longest_run
