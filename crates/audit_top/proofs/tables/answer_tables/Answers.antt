use Rattle.std.proofs.Common.{◌∙◌}
use Rattle.audit_top.proofs.Tellings.{judges_refused, large_says, large_unaccepted, tables_accepted, tables_say, tells_answered, tells_as}
use Rattle.audit_top.proofs.tables.answer_tables.Goals as goal

pub returns-in-Ok : goal.returns-in-Ok
returns-in-Ok g c =
    let image = c.args.image.now in
    tells_as _ _ _ _ _ _ _ _ _ (tables_say image c.in-Ok.ensures.accepted) (tables_accepted image c.in-Ok.ensures.accepted)
    (rw (c.as_slice.ensures.value, c.in-Ok.ensures.listed, c.in-Ok.ensures.parts) at c.answer_written.ensures)

pub returns-in_default : goal.returns-in_default
returns-in_default g c =
    let image = c.args.image.now in
    let large = c.in-Err.ensures.refused c.in_default.not-OutOfMemory in
    tells_answered _ _ _ _ _ _ _ _ (large_says image _ large) (judges_refused _ (large_unaccepted image _ large)) _ (rw (c.as_slice-in-Err.ensures.value ∙ c.tables_line.ensures) at c.answer_text.ensures)
