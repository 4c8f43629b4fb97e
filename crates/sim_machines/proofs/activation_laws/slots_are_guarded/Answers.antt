use Rattle.sim_machines.proofs.Saving.{are_guarded}
use Rattle.sim_machines.proofs.activation_laws.slots_are_guarded.Goals as goal

pub returns : goal.returns
returns c = are_guarded
