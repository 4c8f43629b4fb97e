use Rattle.eh_gates.proofs.Leaving.{thrown_only}
use Rattle.eh_gates.proofs.laws.failed_searches_enter_nothing.Goals as goal

pub returns : goal.returns
returns c = λ g s t end why may holds none e. thrown_only g s t end why may holds none e
