use Rattle.mem_laws.proofs.Runs.{stop_at_first}
use Rattle.mem_laws.proofs.runs_stop_at_their_first.Goals as goal

pub returns : goal.returns
returns c = stop_at_first
