use Rattle.eh_walk.proofs.Alike.{reaches_leave_bytes}
use Rattle.eh_walk.proofs.laws.reaches_leave_bytes.Goals as goal

pub returns : goal.returns
returns c = reaches_leave_bytes
