use Rattle.frame_laws.proofs.Calls.{calls}
use Rattle.frame_laws.proofs.calls_stand_at_their_sites.Goals as goal

pub returns : goal.returns
returns c = calls
