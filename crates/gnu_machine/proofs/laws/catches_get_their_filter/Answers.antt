use Rattle.gnu_machine.proofs.Pads.{filters_given, without_filter}
use Rattle.gnu_machine.proofs.laws.catches_get_their_filter.Goals as goal

pub returns-clause-filter : goal.returns-clause-filter
returns-clause-filter c = filters_given

pub returns-clause-none : goal.returns-clause-none
returns-clause-none c = without_filter
