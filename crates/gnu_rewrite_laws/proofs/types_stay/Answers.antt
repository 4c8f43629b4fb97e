use Rattle.gnu_rewrite_laws.proofs.Names.{law_of_types}
use Rattle.gnu_rewrite_laws.proofs.types_stay.Goals as goal

pub returns : goal.returns
returns c = law_of_types
