use Rattle.frame_flow.proofs.Reaching.{facts_reach}
use Rattle.frame_flow.proofs.laws.reached_places_have_facts.Goals as goal

pub returns : goal.returns
returns c = facts_reach
