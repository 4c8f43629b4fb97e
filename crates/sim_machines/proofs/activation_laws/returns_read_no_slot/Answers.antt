use Rattle.sim_machines.proofs.SlotWords.{reads_no_slot}
use Rattle.sim_machines.proofs.activation_laws.returns_read_no_slot.Goals as goal

pub returns : goal.returns
returns c = reads_no_slot
