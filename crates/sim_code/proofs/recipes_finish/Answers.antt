use Rattle.sim_code.proofs.Reading as reading
use Rattle.sim_code.proofs.recipes_finish.Goals as goal

pub returns : goal.returns
returns c = reading.recipes_finish
