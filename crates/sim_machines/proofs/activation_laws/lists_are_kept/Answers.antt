use Rattle.sim_machines.proofs.KeepingLists.{lists_kept}
use Rattle.sim_machines.proofs.activation_laws.lists_are_kept.Goals as goal

pub returns : goal.returns
returns c = lists_kept
