use Rattle.sim_machines.proofs.Beyond.{words_beyond_stay}
use Rattle.sim_machines.proofs.activation_laws.words_beyond_stay.Goals as goal

pub returns : goal.returns
returns c = words_beyond_stay
