use Rattle.eh_gate_laws.proofs.PadEvents.{have_their_event}
use Rattle.eh_gate_laws.proofs.landings_have_their_event.Goals as goal

pub returns : goal.returns
returns c = have_their_event
