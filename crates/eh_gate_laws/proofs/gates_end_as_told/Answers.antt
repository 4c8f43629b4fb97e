use Rattle.eh_gate_laws.proofs.Refusals.{end_as_told}
use Rattle.eh_gate_laws.proofs.gates_end_as_told.Goals as goal

pub returns : goal.returns
returns c = end_as_told
