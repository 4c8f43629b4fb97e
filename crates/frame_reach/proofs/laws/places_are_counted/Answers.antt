use Rattle.frame_reach.proofs.Existing.{places_are_counted}
use Rattle.frame_reach.proofs.laws.places_are_counted.Goals as goal

pub returns : goal.returns
returns c = places_are_counted
