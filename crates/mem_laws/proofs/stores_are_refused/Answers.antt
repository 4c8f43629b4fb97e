use Rattle.mem_laws.proofs.Guarded.{stores_refused}
use Rattle.mem_laws.proofs.stores_are_refused.Goals as goal

pub returns : goal.returns
returns c = stores_refused
