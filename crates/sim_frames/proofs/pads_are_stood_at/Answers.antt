use Rattle.sim_frames.proofs.PadStands.{pad_stands}
use Rattle.sim_frames.proofs.pads_are_stood_at.Goals as goal

pub returns : goal.returns
returns c = λ x s site is k here. pad_stands x is s k site here
