use Rattle.sim_frames.proofs.Landing.{lands_in}
use Rattle.sim_frames.proofs.landings_are_found.Goals as goal

pub returns : goal.returns
returns c = lands_in
