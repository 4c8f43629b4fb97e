use Rattle.sim_changes.proofs.Frees.{registers}
use Rattle.sim_changes.proofs.free_registers.Goals as goal

pub returns : goal.returns
returns c = registers
