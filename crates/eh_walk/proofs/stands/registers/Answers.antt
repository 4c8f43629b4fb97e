use Rattle.std.proofs.Common.{arith}
use Rattle.eh_gates.proofs.Fifteen.{fifteen}
use Rattle.eh_walk.proofs.stands.registers.Goals as goal

pub returns : goal.returns
returns c = fifteen c.args.regs.now.r c.args.regs.now.pc (omega arith)
