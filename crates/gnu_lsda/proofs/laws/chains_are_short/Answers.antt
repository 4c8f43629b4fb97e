use Rattle.gnu_lsda.proofs.Bounds.{law_of_chains}
use Rattle.gnu_lsda.proofs.laws.chains_are_short.Goals as goal

pub returns : goal.returns
returns c = law_of_chains
