use Rattle.eh_gate_laws.proofs.Landings.{landings}
use Rattle.eh_gate_laws.proofs.landings_are_as_told.Goals as goal

pub returns : goal.returns
returns c = landings
