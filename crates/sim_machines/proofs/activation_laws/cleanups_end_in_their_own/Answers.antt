use Rattle.sim_machines.proofs.RecordedGates.{cleanups_end}
use Rattle.sim_machines.proofs.activation_laws.cleanups_end_in_their_own.Goals as goal

pub returns : goal.returns
returns c = cleanups_end
