use Rattle.frame_check.proofs.Naming.{roots_named}
use Rattle.frame_check.proofs.laws.roots_are_what_descriptors_name.Goals as goal

pub returns : goal.returns
returns c = roots_named
