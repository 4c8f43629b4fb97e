use Rattle.frame_reach.proofs.Lowerings.{no_lowering_in_the_prologue}
use Rattle.frame_reach.proofs.laws.no_lowering_in_the_prologue.Goals as goal

pub returns : goal.returns
returns c = no_lowering_in_the_prologue
