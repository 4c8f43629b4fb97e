use Rattle.audit_top.proofs.Listed.{status_is_of_list}
use Rattle.audit_top.proofs.laws.status_is_of_list.Goals as goal

pub returns : goal.returns
returns c = status_is_of_list
