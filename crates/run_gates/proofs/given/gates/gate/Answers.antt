use Rattle.std.proofs.Common.{arith}
use Rattle.run_gates.proofs.Inputs.{given_failed}
use Rattle.run_gates.proofs.given.gates.gate.Goals as goal

pub returns-in-Err-clause-given : goal.returns-in-Err-clause-given
returns-in-Err-clause-given g c = given_failed c.args.number (record c.args.regs.now { pc = c.args.pc }) c.args.regs.now _ (omega arith)
