use Rattle.audit_top.proofs.Writings.{wrote_all, wrote_fewer}
use Rattle.audit_top.proofs.listing.write_text.Goals as goal

pub returns-in-Ok : goal.returns-in-Ok
returns-in-Ok g c = wrote_all _ _ _ _ _ _ c.in-Ok.ensures.ok c.in-Ok.ensures.cause.kept

pub returns-in-Err : goal.returns-in-Err
returns-in-Err g c = wrote_fewer _ _ _ _ _ c.in-Err.ensures.fewer c.in-Err.ensures.cause.failed
