use Rattle.frame_audit.proofs.Told.{stray_outside}
use Rattle.frame_audit.proofs.laws.stray_is_outside.Goals as goal

pub returns : goal.returns
returns c = stray_outside
