use Rattle.gnu_rewrite_laws.proofs.Good.{law_of_code}
use Rattle.gnu_rewrite_laws.proofs.code_stays.Goals as goal

pub returns : goal.returns
returns c = law_of_code
