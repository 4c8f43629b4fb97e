use Rattle.frame_graph.proofs.Inside.{places_have_their_address}
use Rattle.frame_graph.proofs.laws.places_have_their_address.Goals as goal

pub returns : goal.returns
returns c = places_have_their_address
