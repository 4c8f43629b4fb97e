use Rattle.sim_machines.proofs.ThrowWords.{throws_read_none}
use Rattle.sim_machines.proofs.activation_laws.throws_read_no_slot.Goals as goal

pub returns : goal.returns
returns c = throws_read_none
