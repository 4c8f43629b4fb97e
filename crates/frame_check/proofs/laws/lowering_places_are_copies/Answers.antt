use Rattle.frame_graph.proofs.Lowered.{lowering_places_are_copies}
use Rattle.frame_reach.proofs.Existing.{marks_exist}
use Rattle.frame_check.proofs.Lowerings.{lowerings_are_copies}
use Rattle.frame_check.proofs.laws.lowering_places_are_copies.Goals as goal

pub returns : goal.returns
returns c = lowerings_are_copies lowering_places_are_copies marks_exist
