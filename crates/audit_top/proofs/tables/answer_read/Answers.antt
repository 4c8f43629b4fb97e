use Rattle.std.proofs.Common.{◌∙◌, refl}
use Rattle.audit_top.proofs.Tellings.{judges_refused, tells_answered}
use Rattle.audit_top.proofs.tables.answer_read.Goals as goal

pub returns-in-Ok : goal.returns-in-Ok
returns-in-Ok g c = rw c.in-Ok.ensures.image c.answer_audited.ensures

pub returns-in_default : goal.returns-in_default
returns-in_default g c =
    rw (c.in-Err.ensures.refused c.in_default.not-OutOfMemory)
    (tells_answered _ _ _ _ _ _ _ _ refl (judges_refused _ (λ p. p.1)) _ (rw (c.as_slice.ensures.value ∙ c.image_fault_line.ensures) at c.answer_text.ensures))
