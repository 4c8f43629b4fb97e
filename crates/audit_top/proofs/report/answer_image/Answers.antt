use Rattle.std.proofs.Common.{◌≡◌, true, false, sym, ap, ◌∙◌}
use Rattle.eh_index.specs.Refusal.{index_refusal}
use Rattle.audit_top.specs.Tables.{has_generic}
use Rattle.audit_top.proofs.Tellings.{generic_accepted, generic_says, index_is_read, index_is_unread, index_says, index_unaccepted, judges_refused, plain_accepted, plain_says, tells_answered, tells_as}
use Rattle.audit_top.proofs.report.answer_image.Goals as goal

pub returns-in-Err : goal.returns-in-Err
returns-in-Err g c =
    let image = c.args.image.now in
    let unread = index_is_unread (index_refusal image) image _ c.in-Err.ensures in
    tells_answered _ _ _ _ _ _ _ _ (index_says image _ unread) (judges_refused _ (index_unaccepted image _ unread)) _ (rw (c.as_slice.ensures.value ∙ c.index_line.ensures) at c.answer_text.ensures)

pub returns-then-has_generic : goal.returns-then-has_generic
returns-then-has_generic g c =
    let image = c.args.image.now in
    let read = index_is_read (index_refusal image) image c.in-Ok.index c.in-Ok.ensures in
    let generic : has_generic image ≡ true = ap has_generic (sym read.0) ∙ sym c.if-has_generic.ensures in
    tells_as _ _ _ _ _ _ _ _ _ (generic_says image read.1 generic) (generic_accepted image read.1 generic) c.answer_tables.ensures

pub returns-else-has_generic : goal.returns-else-has_generic
returns-else-has_generic g c =
    let image = c.args.image.now in
    let read = index_is_read (index_refusal image) image c.in-Ok.index c.in-Ok.ensures in
    let plain : has_generic image ≡ false = ap has_generic (sym read.0) ∙ sym c.if-has_generic.ensures in
    tells_as _ _ _ _ _ _ _ _ _ (plain_says image read.1 plain) (plain_accepted image read.1 plain) c.answer_audited.ensures
