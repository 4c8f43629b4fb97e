use Rattle.eh_gate_laws.proofs.Throws.{add_one}
use Rattle.eh_gate_laws.proofs.failed_searches_add_one.Goals as goal

pub returns : goal.returns
returns c = add_one
