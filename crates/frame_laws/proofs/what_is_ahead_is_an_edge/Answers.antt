use Rattle.frame_laws.proofs.Calls.{ahead}
use Rattle.frame_laws.proofs.what_is_ahead_is_an_edge.Goals as goal

pub returns : goal.returns
returns c = ahead
