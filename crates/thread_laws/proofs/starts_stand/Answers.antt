use Rattle.thread_laws.proofs.Fresh.{starts_stand_for}
use Rattle.thread_laws.proofs.starts_stand.Goals as goal

pub returns : goal.returns
returns c = starts_stand_for c.free_starts.ensures
