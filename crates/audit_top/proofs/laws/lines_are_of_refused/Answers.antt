use Rattle.audit_top.proofs.Entries.{lines_are_of_refused}
use Rattle.audit_top.proofs.laws.lines_are_of_refused.Goals as goal

pub returns : goal.returns
returns c = lines_are_of_refused
