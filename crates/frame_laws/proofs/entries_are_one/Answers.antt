use Rattle.frame_laws.proofs.Covered.{entries}
use Rattle.frame_laws.proofs.entries_are_one.Goals as goal

pub returns : goal.returns
returns c = entries
