use Rattle.audit_top.proofs.Writings.{wrote_as, stopped_as}
use Rattle.audit_top.proofs.audited.answer_audit.Goals as goal

pub returns-in-Ok-clause-writes : goal.returns-in-Ok-clause-writes
returns-in-Ok-clause-writes g c = wrote_as _ _ _ _ _ _ _ c.in-Ok.ensures

pub returns-in-Err-clause-writes : goal.returns-in-Err-clause-writes
returns-in-Err-clause-writes g c = stopped_as _ _ _ _ _ _ c.in-Err.ensures
