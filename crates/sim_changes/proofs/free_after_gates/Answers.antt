use Rattle.sim_changes.proofs.Frees.{after_gates}
use Rattle.sim_changes.proofs.free_after_gates.Goals as goal

pub returns : goal.returns
returns c = after_gates
