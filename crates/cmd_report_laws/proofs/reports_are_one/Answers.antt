use Rattle.cmd_report_laws.proofs.OneReport.{reports}
use Rattle.cmd_report_laws.proofs.reports_are_one.Goals as goal

pub returns : goal.returns
returns c = reports c.programs_are_one.ensures
