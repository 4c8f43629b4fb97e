use Rattle.eh_phase_laws.proofs.Heard.{faults_end}
use Rattle.eh_phase_laws.proofs.catches.faults_end.Goals as goal

pub returns : goal.returns
returns c = faults_end
