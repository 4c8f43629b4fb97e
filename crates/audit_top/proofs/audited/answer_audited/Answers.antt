use Rattle.std.proofs.Common.{◌∙◌}
use Rattle.audit_top.proofs.Tellings.{audit_says, index_audits, none_is_clear, unread_unaccepted, judges_clear, judges_refused, tells_written, tells_answered}
use Rattle.audit_top.proofs.audited.answer_audited.Goals as goal

pub returns-in-Ok : goal.returns-in-Ok
returns-in-Ok g c =
    let image = c.args.image.now in
    let refused = c.args.refused.now in
    tells_written _ _ _ _ _ _ _ _ (audit_says refused image _ c.in-Ok.ensures.read c.in-Ok.ensures.audit) (judges_clear _ _ (none_is_clear refused _ _ c.in-Ok.ensures.accepted)) _
    c.answer_audit.ensures.writes c.answer_audit.ensures.status

pub returns-in-Err-Index : goal.returns-in-Err-Index
returns-in-Err-Index g c =
    let image = c.args.image.now in
    let unread = rw c.in-Err-Index.field-0-is at c.in-Err-Index.ensures.refused in
    tells_answered _ _ _ _ _ _ _ _ (index_audits c.args.refused.now image _ unread) (judges_refused _ (λ p. unread_unaccepted image _ unread p.1)) _
    (rw (c.as_slice.ensures.value ∙ c.index_line.ensures, c.in-Err-Index.field-0-is) at c.answer_text.ensures)
