use Rattle.sim_machines.proofs.Passed.{landings_stand}
use Rattle.sim_machines.proofs.activation_laws.landings_stand_in_their_frames.Goals as goal

pub returns : goal.returns
returns c = landings_stand
