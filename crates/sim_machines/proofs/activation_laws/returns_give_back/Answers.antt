use Rattle.sim_machines.proofs.GivesBack.{gives_back}
use Rattle.sim_machines.proofs.activation_laws.returns_give_back.Goals as goal

pub returns : goal.returns
returns c = gives_back
