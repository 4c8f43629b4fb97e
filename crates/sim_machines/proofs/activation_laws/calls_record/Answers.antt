use Rattle.sim_machines.proofs.Calling.{calls_record}
use Rattle.sim_machines.proofs.activation_laws.calls_record.Goals as goal

pub returns : goal.returns
returns c = calls_record
