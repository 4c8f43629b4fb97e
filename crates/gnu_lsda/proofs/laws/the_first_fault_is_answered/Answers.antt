use Rattle.gnu_lsda.proofs.FirstFault.{law_of_first}
use Rattle.gnu_lsda.proofs.laws.the_first_fault_is_answered.Goals as goal

pub returns : goal.returns
returns c = law_of_first
