use Rattle.eh_phase_laws.proofs.Heard.{barriers_stop}
use Rattle.eh_phase_laws.proofs.catches.barriers_stop.Goals as goal

pub returns : goal.returns
returns c = barriers_stop
