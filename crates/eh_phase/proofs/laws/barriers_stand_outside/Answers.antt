use Rattle.eh_phase.proofs.Rises.{barriers_stand_outside}
use Rattle.eh_phase.proofs.laws.barriers_stand_outside.Goals as goal

pub returns : goal.returns
returns c = barriers_stand_outside
