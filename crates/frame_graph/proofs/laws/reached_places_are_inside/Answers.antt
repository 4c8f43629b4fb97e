use Rattle.frame_graph.proofs.Inside.{reached_places_are_inside}
use Rattle.frame_graph.proofs.laws.reached_places_are_inside.Goals as goal

pub returns : goal.returns
returns c = reached_places_are_inside
