use Rattle.sim_machines.proofs.Entered.{are_in}
use Rattle.sim_machines.proofs.activation_laws.landings_are_in_their_activation.Goals as goal

pub returns : goal.returns
returns c = are_in
