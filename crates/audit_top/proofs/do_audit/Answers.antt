use Rattle.audit_top.proofs.Files.{does_usage}
use Rattle.audit_top.proofs.do_audit.Goals as goal

pub returns-in-None : goal.returns-in-None
returns-in-None g c = rw (← c.in-None.ensures) (does_usage _ _ _ _ _ _ c.answer_text.ensures)

pub returns-in-Some : goal.returns-in-Some
returns-in-Some g c = rw (← c.in-Some.ensures) c.answer_file.ensures
