use Rattle.gnu_rewrite_laws.proofs.Names.{law_of_names}
use Rattle.gnu_rewrite_laws.proofs.named_symbols_stay.Goals as goal

pub returns : goal.returns
returns c = law_of_names
