use Rattle.gnu_verdict_laws.proofs.Accepted.{law_of_verdicts}
use Rattle.gnu_verdict_laws.proofs.verdicts_are_gnus.Goals as goal

pub returns : goal.returns
returns c = law_of_verdicts
