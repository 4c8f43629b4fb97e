use Rattle.mem_laws.proofs.Runs.{are_done}
use Rattle.mem_laws.proofs.runs_are_done.Goals as goal

pub returns : goal.returns
returns c = are_done
