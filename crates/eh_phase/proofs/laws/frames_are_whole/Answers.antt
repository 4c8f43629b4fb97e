use Rattle.eh_phase.proofs.Whole.{frames_are_whole}
use Rattle.eh_phase.proofs.laws.frames_are_whole.Goals as goal

pub returns : goal.returns
returns c = frames_are_whole
