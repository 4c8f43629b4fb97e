use Rattle.audit_top.proofs.Writings.{wrote_then, wrote_early}
use Rattle.audit_top.proofs.listing.write_list.Goals as goal

pub returns-in-Ok : goal.returns-in-Ok
returns-in-Ok g c = wrote_then _ _ _ _ _ _ _ _ _ c.in-Ok.ensures.ok c.in-Ok.ensures.kept c.write_found.ensures

pub returns-in-Err : goal.returns-in-Err
returns-in-Err g c = wrote_early _ _ _ _ _ _ _ c.in-Err.ensures
