use Rattle.sim_machines.proofs.Agreeing.{are_one}
use Rattle.sim_machines.proofs.activation_laws.agreeing_frames_are_one.Goals as goal

pub returns : goal.returns
returns c = are_one
