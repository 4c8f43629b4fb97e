use Rattle.eh_gate_laws.proofs.Landings.{go_after}
use Rattle.eh_gate_laws.proofs.gates_go_after.Goals as goal

pub returns : goal.returns
returns c = go_after
