use Rattle.sim_runs.proofs.OneReport.{programs}
use Rattle.sim_runs.proofs.one_report.programs_are_one.Goals as goal

pub returns : goal.returns
returns c = programs c.answers_are_one.ensures
