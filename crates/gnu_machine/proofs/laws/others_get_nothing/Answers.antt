use Rattle.gnu_machine.proofs.Pads.{others, ends}
use Rattle.gnu_machine.proofs.laws.others_get_nothing.Goals as goal

pub returns-clause-goes : goal.returns-clause-goes
returns-clause-goes c = others

pub returns-clause-ends : goal.returns-clause-ends
returns-clause-ends c = ends
