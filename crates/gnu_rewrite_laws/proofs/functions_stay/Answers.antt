use Rattle.gnu_rewrite_laws.proofs.Good.{law_of_functions, law_of_segments}
use Rattle.gnu_rewrite_laws.proofs.functions_stay.Goals as goal

pub returns : goal.returns
returns c = record { functions = law_of_functions; segments = law_of_segments }
