use Rattle.frame_audit.proofs.Divided.{code_divided}
use Rattle.frame_audit.proofs.laws.code_is_divided.Goals as goal

pub returns : goal.returns
returns c = code_divided
