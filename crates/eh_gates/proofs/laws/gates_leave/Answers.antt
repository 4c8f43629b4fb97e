use Rattle.std.proofs.Common.{subst}
use Rattle.eh_gates.specs.State.{Outcome}
use Rattle.eh_gates.proofs.Leaving.{Leaves, gate_left}
use Rattle.eh_gates.proofs.laws.gates_leave.Goals as goal

pub returns : goal.returns
returns c = λ g number next s t end e. subst (λ (o : Outcome). Leaves s o) e (gate_left g number next s)
