use Rattle.eh_gate_laws.proofs.Resumes.{go_on_from_kept}
use Rattle.eh_gate_laws.proofs.cleanups_go_on_from_the_kept.Goals as goal

pub returns : goal.returns
returns c = go_on_from_kept
