use Rattle.sim_event_laws.proofs.Heads.{stay_heads}
use Rattle.sim_event_laws.proofs.heads_stay_heads.Goals as goal

pub returns : goal.returns
returns c = stay_heads
