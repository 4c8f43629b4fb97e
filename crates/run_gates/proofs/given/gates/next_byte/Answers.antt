use Rattle.std.proofs.Common.{arith}
use Rattle.run_gates.proofs.Inputs.{one_byte}
use Rattle.run_gates.proofs.given.gates.next_byte.Goals as goal

pub returns-in-Ok-clause-small : goal.returns-in-Ok-clause-small
returns-in-Ok-clause-small g c = one_byte _ (omega arith)
