use Rattle.sim_machines.proofs.GivesBack.{frames_are}
use Rattle.sim_machines.proofs.activation_laws.frames_are_activations.Goals as goal

pub returns : goal.returns
returns c = frames_are
