use Rattle.sim_frames.proofs.FramesSame.{throws_see_alike}
use Rattle.sim_frames.proofs.throws_see_alike.Goals as goal

pub returns : goal.returns
returns c = throws_see_alike
