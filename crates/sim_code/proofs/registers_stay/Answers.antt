use Rattle.sim_code.proofs.Results.{unwound_registers}
use Rattle.sim_code.proofs.registers_stay.Goals as goal

pub returns : goal.returns
returns c = unwound_registers
