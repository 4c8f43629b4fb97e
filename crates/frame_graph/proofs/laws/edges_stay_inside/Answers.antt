use Rattle.frame_graph.proofs.Inside.{edges_stay_inside}
use Rattle.frame_graph.proofs.laws.edges_stay_inside.Goals as goal

pub returns : goal.returns
returns c = edges_stay_inside
