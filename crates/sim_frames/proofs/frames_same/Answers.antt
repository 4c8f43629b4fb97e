use Rattle.sim_frames.proofs.FramesSame.{frames_are_same}
use Rattle.sim_frames.proofs.frames_same.Goals as goal

pub returns : goal.returns
returns c = frames_are_same
