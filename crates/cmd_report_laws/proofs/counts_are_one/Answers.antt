use Rattle.cmd_report_laws.proofs.OneReport.{counts}
use Rattle.cmd_report_laws.proofs.counts_are_one.Goals as goal

pub returns : goal.returns
returns c = counts c.programs_are_one.ensures
