use Rattle.sim_throws.proofs.ThrowGates.{throw_gates_match}
use Rattle.sim_throws.proofs.throw_gates_match.Goals as goal

pub returns : goal.returns
returns c = throw_gates_match
