use Rattle.cmd_report_laws.proofs.OneReport.{refusals}
use Rattle.cmd_report_laws.proofs.refusals_are_one.Goals as goal

pub returns : goal.returns
returns c = refusals c.programs_are_one.ensures
