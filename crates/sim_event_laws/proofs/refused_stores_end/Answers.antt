use Rattle.sim_event_laws.proofs.Saves.{refused_end}
use Rattle.sim_event_laws.proofs.refused_stores_end.Goals as goal

pub returns : goal.returns
returns c = refused_end
