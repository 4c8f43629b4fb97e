use Rattle.std.proofs.Common.{◌∙◌, refl}
use Rattle.audit_top.proofs.Tellings.{judges_refused, tells_answered}
use Rattle.audit_top.proofs.tables.answer_written.Goals as goal

pub returns-in_default : goal.returns-in_default
returns-in_default g c =
    rw (c.in-Err.ensures.refused c.in_default.not-OutOfMemory)
    (tells_answered _ _ _ _ _ _ _ _ refl (judges_refused _ (λ p. p.1)) _ (rw (c.as_slice-in-Err.ensures.value ∙ c.image_fault_line.ensures) at c.answer_text.ensures))
