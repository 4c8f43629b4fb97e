use Rattle.std.proofs.Common.{rules}
use Rattle.run_gates.proofs.Inputs.{taken}
use Rattle.run_gates.proofs.given.source.OneByteSourceSource.take.Goals as goal

pub returns-in-Some-clause-bytes : goal.returns-in-Some-clause-bytes
returns-in-Some-clause-bytes c = (taken c.args.self.now.byte c.in-Some.byte c.args.buf.now c.in-Some.is (search rules), λ e. absurd cc)
