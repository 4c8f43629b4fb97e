use Rattle.cmd_report_laws.proofs.OneReport.{threads}
use Rattle.cmd_report_laws.proofs.threads_are_one.Goals as goal

pub returns : goal.returns
returns c = threads c.programs_are_one.ensures
