use Rattle.eh_gates.proofs.Heads.{gate_heads}
use Rattle.eh_gates.proofs.laws.heads_stay.Goals as goal

pub returns : goal.returns
returns c = λ g number next s h. gate_heads g number next s h
