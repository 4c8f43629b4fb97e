use Rattle.std.proofs.Common.{◌∙◌}
use Rattle.audit_top.proofs.Writings.{wrote_none}
use Rattle.audit_top.proofs.listing.write_function.Goals as goal

pub returns-in-Ok : goal.returns-in-Ok
returns-in-Ok g c = rw (c.as_slice.ensures.value ∙ c.in-Ok.ensures) at c.write_text.ensures

pub returns-in-Err : goal.returns-in-Err
returns-in-Err g c = wrote_none _ _ _
