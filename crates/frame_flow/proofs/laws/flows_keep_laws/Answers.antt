use Rattle.frame_flow.proofs.Instance.{laws}
use Rattle.frame_flow.proofs.laws.flows_keep_laws.Goals as goal

pub returns : goal.returns
returns c = laws
