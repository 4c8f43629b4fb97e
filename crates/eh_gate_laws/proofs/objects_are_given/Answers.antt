use Rattle.eh_gate_laws.proofs.Pointers.{are_given}
use Rattle.eh_gate_laws.proofs.objects_are_given.Goals as goal

pub returns : goal.returns
returns c = are_given
