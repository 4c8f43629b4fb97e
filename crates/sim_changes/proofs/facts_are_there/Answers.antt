use Rattle.sim_changes.proofs.Frees.{has_facts}
use Rattle.sim_changes.proofs.facts_are_there.Goals as goal

pub returns : goal.returns
returns c = has_facts
