use Rattle.sim_code.proofs.CodesAre.{codes_are}
use Rattle.sim_code.proofs.bytes_are_recipes.Goals as goal

pub returns : goal.returns
returns c = codes_are
