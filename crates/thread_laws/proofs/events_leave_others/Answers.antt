use Rattle.thread_laws.proofs.Leaving.{events_leave}
use Rattle.thread_laws.proofs.events_leave_others.Goals as goal

pub returns : goal.returns
returns c = events_leave
