use Rattle.frame_audit.proofs.Divided.{counts_sum}
use Rattle.frame_audit.proofs.laws.counts_add_up.Goals as goal

pub returns : goal.returns
returns c = counts_sum
