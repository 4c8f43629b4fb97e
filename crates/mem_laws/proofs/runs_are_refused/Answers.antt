use Rattle.mem_laws.proofs.Guarded.{runs_refused}
use Rattle.mem_laws.proofs.runs_are_refused.Goals as goal

pub returns : goal.returns
returns c = runs_refused
