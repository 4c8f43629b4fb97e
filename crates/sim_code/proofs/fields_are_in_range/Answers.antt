use Rattle.sim_code.proofs.Bounded.{are_in_range}
use Rattle.sim_code.proofs.fields_are_in_range.Goals as goal

pub returns : goal.returns
returns c = are_in_range
