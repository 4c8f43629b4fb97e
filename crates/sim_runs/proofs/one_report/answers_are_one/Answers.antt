use Rattle.sim_runs.proofs.OneReport.{answers}
use Rattle.sim_runs.proofs.one_report.answers_are_one.Goals as goal

pub returns : goal.returns
returns c = answers c.roots_mean_one_graph.ensures c.marks_exist.ensures
