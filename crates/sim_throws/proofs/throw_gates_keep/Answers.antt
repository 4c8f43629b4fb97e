use Rattle.sim_machines.specs.Checked.{program_of}
use Rattle.sim_machines.specs.Program.{program_tables}
use Rattle.sim_throws.proofs.ThrowLeaves.{throw_gate_keeps, rethrow_gate_keeps}
use Rattle.sim_throws.proofs.throw_gates_keep.Goals as goal

pub returns : goal.returns
returns c = λ x s next imm is k does. (throw_gate_keeps x is s k imm does (program_tables (program_of x)) next, rethrow_gate_keeps x is s k imm does (program_tables (program_of x)) next)
