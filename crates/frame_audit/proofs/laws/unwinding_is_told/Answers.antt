use Rattle.frame_audit.proofs.Told.{unwinding_told}
use Rattle.frame_audit.proofs.laws.unwinding_is_told.Goals as goal

pub returns : goal.returns
returns c = unwinding_told
