use Rattle.sim_machines.proofs.Saving.{saves_become}
use Rattle.sim_machines.proofs.activation_laws.saves_become_slots.Goals as goal

pub returns : goal.returns
returns c = saves_become
