use Rattle.eh_gate_laws.proofs.Pointers.{give}
use Rattle.eh_gate_laws.proofs.catches_give.Goals as goal

pub returns : goal.returns
returns c = give
