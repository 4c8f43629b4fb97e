use Rattle.mem_laws.proofs.Runs.{change_nothing}
use Rattle.mem_laws.proofs.refusals_change_nothing.Goals as goal

pub returns : goal.returns
returns c = change_nothing
