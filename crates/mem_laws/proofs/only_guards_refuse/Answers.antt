use Rattle.mem_laws.proofs.Guarded.{only_guards}
use Rattle.mem_laws.proofs.only_guards_refuse.Goals as goal

pub returns : goal.returns
returns c = only_guards
