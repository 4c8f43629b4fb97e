use Rattle.eh_cxa.proofs.RunLaws.{uncaught_fly}
use Rattle.eh_cxa.proofs.laws.uncaught_exceptions_fly.Goals as goal

pub returns : goal.returns
returns c = uncaught_fly
