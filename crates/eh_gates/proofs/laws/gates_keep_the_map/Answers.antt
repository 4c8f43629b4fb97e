use Rattle.eh_gates.proofs.KeptMap.{gate_map}
use Rattle.eh_gates.proofs.laws.gates_keep_the_map.Goals as goal

pub returns : goal.returns
returns c = λ g number next s is. gate_map g number next s is
