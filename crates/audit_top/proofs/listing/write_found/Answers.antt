use Rattle.audit_top.proofs.Writings.{wrote_then, wrote_early}
use Rattle.audit_top.proofs.listing.write_found.Goals as goal

pub returns-in-Ok : goal.returns-in-Ok
returns-in-Ok g c =
    let first = rw c.functions.ensures at c.in-Ok.ensures in
    wrote_then _ _ _ _ _ _ _ _ _ first.ok first.kept (rw c.types.ensures at c.write_types.ensures)

pub returns-in-Err : goal.returns-in-Err
returns-in-Err g c = wrote_early _ _ _ _ _ _ _ (rw c.functions.ensures at c.in-Err.ensures)
