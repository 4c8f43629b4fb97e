use Rattle.sim_machines.proofs.FramesEnd.{frames_end}
use Rattle.sim_machines.proofs.activation_laws.frames_end_as_told.Goals as goal

pub returns : goal.returns
returns c = frames_end
