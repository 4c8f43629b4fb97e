use Rattle.eh_phase.proofs.Rises.{frames_rise}
use Rattle.eh_phase.proofs.laws.frames_rise.Goals as goal

pub returns : goal.returns
returns c = frames_rise
