use Rattle.std.proofs.Common.{refl}
use Rattle.sim_changes.proofs.starts_are_fresh.Goals as goal

pub returns : goal.returns
returns c p = refl
