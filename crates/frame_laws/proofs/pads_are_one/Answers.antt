use Rattle.frame_laws.proofs.Pads.{pads_one}
use Rattle.frame_laws.proofs.pads_are_one.Goals as goal

pub returns : goal.returns
returns c = pads_one
