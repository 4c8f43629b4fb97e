use Rattle.gnu_rewrite_laws.proofs.Index.{law_of_index}
use Rattle.gnu_rewrite_laws.proofs.the_index_is_read.Goals as goal

pub returns : goal.returns
returns c = law_of_index
