use Rattle.frame_graph.proofs.Lowered.{lowering_places_are_copies}
use Rattle.frame_graph.proofs.laws.lowering_places_are_copies.Goals as goal

pub returns : goal.returns
returns c = lowering_places_are_copies
