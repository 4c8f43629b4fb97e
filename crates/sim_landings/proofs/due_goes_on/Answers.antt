use Rattle.sim_landings.proofs.OneEvent.{due_goes_on}
use Rattle.sim_landings.proofs.due_goes_on.Goals as goal

pub returns : goal.returns
returns c = due_goes_on
