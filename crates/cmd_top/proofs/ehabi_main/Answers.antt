use Rattle.cmd_top.proofs.Ended.{ended_well, ended_early}
use Rattle.cmd_top.proofs.ehabi_main.Goals as goal

pub returns-in-Ok : goal.returns-in-Ok
returns-in-Ok g c = ended_well _ _ _ _ _ _ c.in-Ok.ensures

pub returns-in-Err : goal.returns-in-Err
returns-in-Err g c = rw c.status.ensures (ended_early _ _ _ _ _ _ c.in-Err.ensures)
