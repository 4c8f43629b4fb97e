use Rattle.eh_gate_laws.proofs.Refusals.{are_none}
use Rattle.eh_gate_laws.proofs.other_gates_are_none.Goals as goal

pub returns : goal.returns
returns c = are_none
