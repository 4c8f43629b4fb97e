use Rattle.eh_gate_laws.proofs.Throws.{add_their_event}
use Rattle.eh_gate_laws.proofs.throws_add_their_event.Goals as goal

pub returns : goal.returns
returns c = add_their_event
