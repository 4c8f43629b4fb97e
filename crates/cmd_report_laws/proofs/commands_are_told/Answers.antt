use Rattle.cmd_report_laws.proofs.Commands.{commands}
use Rattle.cmd_report_laws.proofs.commands_are_told.Goals as goal

pub returns : goal.returns
returns c = commands c.reports_are_written.ensures
