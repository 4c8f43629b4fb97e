use Rattle.eh_phase_laws.proofs.Pointed.{unlike_types_fail}
use Rattle.eh_phase_laws.proofs.pointers.unlike_types_fail.Goals as goal

pub returns : goal.returns
returns c = unlike_types_fail
