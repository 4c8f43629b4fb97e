use Rattle.std.proofs.Common.{◌∙◌}
use Rattle.audit_top.proofs.Writings.{wrote_none, wrote_then, wrote_early}
use Rattle.audit_top.proofs.listing.write_audit.Goals as goal

pub returns-in-Ok-summary_lines : goal.returns-in-Ok-summary_lines
returns-in-Ok-summary_lines g c =
    wrote_then _ _ _ _ _ _ _ _ _ c.in-Ok.ensures.ok c.in-Ok.ensures.kept (rw (c.as_slice.ensures.value ∙ c.in-Ok-summary_lines.ensures) at c.write_text.ensures)

pub returns-in-Err-summary_lines : goal.returns-in-Err-summary_lines
returns-in-Err-summary_lines g c = wrote_then _ _ _ _ _ _ _ _ _ c.in-Ok.ensures.ok c.in-Ok.ensures.kept (wrote_none _ _ _)

pub returns-in-Err : goal.returns-in-Err
returns-in-Err g c = wrote_early _ _ _ _ _ _ _ c.in-Err.ensures
