use Rattle.eh_phase.proofs.Rises.{sites_stand_in_calls}
use Rattle.eh_phase.proofs.laws.sites_stand_in_calls.Goals as goal

pub returns : goal.returns
returns c = sites_stand_in_calls
