use Rattle.sim_event_laws.proofs.Saves.{guard_their_saves}
use Rattle.sim_event_laws.proofs.pushes_guard_their_saves.Goals as goal

pub returns : goal.returns
returns c = guard_their_saves
