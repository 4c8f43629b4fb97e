use Rattle.sim_changes.proofs.Forced.{throws_kept}
use Rattle.sim_changes.proofs.keep_throws.Goals as goal

pub returns : goal.returns
returns c = throws_kept
