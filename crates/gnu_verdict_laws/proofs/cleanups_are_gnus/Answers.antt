use Rattle.gnu_verdict_laws.proofs.Accepted.{law_of_cleanups}
use Rattle.gnu_verdict_laws.proofs.cleanups_are_gnus.Goals as goal

pub returns : goal.returns
returns c = law_of_cleanups
