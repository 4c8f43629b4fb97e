use Rattle.cmd_report_laws.proofs.Written.{written}
use Rattle.cmd_report_laws.proofs.reports_are_written.Goals as goal

pub returns : goal.returns
returns c = written
