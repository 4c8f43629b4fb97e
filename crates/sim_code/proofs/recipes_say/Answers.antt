use Rattle.sim_code.proofs.Folding as folding
use Rattle.sim_code.proofs.recipes_say.Goals as goal

pub returns : goal.returns
returns c = folding.recipes_say
