use Rattle.eh_gate_laws.proofs.Landings.{throws_land}
use Rattle.eh_gate_laws.proofs.throws_land.Goals as goal

pub returns : goal.returns
returns c = throws_land
