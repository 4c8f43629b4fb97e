use Rattle.frame_graph.proofs.Landings.{landings_follow}
use Rattle.frame_graph.proofs.laws.landings_follow.Goals as goal

pub returns : goal.returns
returns c = landings_follow
