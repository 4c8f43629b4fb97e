use Rattle.eh_phase_laws.proofs.Alike.{types_are_equal}
use Rattle.eh_phase_laws.proofs.types.types_are_equal.Goals as goal

pub returns : goal.returns
returns c = types_are_equal
