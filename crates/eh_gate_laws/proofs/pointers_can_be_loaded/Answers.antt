use Rattle.eh_gate_laws.proofs.Pointers.{can_be_loaded}
use Rattle.eh_gate_laws.proofs.pointers_can_be_loaded.Goals as goal

pub returns : goal.returns
returns c = can_be_loaded
