use Rattle.audit_top.proofs.Listed.{lines_are_of_unwell}
use Rattle.audit_top.proofs.laws.lines_are_of_unwell.Goals as goal

pub returns : goal.returns
returns c = lines_are_of_unwell
