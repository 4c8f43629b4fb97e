use Rattle.eh_gates.proofs.Leaving.{rethrown_only}
use Rattle.eh_gates.proofs.laws.failed_rethrows_enter_nothing.Goals as goal

pub returns : goal.returns
returns c = λ g s t end why block may holds none e. rethrown_only g s t end why block may holds none e
