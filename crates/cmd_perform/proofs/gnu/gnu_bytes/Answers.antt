use Rattle.cmd_input.specs.Accepting.{BytesReportsBy, IsUnaccepted}
use Rattle.cmd_perform.specs.GnuReport.{GnuAccepted}
use Rattle.cmd_perform.proofs.Judging.{found_yields, refused_yields}
use Rattle.cmd_perform.proofs.Yielding.{yields_memory}
use Rattle.cmd_perform.proofs.gnu.gnu_bytes.Goals as goal

pub returns-in-Ok-Ok : goal.returns-in-Ok-Ok
returns-in-Ok-Ok g c =
    let found = rw c.in-Ok-Ok.field-0-is at c.in-Ok-Ok.ensures in
    found_yields (GnuAccepted c.args.filters.now c.args.budget) c.args.bytes.now c.in-Ok-Ok.accepted _ _ _ found c.gnu_accepted.ensures

pub returns-in-Ok-Err : goal.returns-in-Ok-Err
returns-in-Ok-Err g c =
    let stands = rw c.in-Ok-Err.field-0-is at c.in-Ok-Err.ensures in
    refused_yields (GnuAccepted c.args.filters.now c.args.budget) c.args.bytes.now c.in-Ok-Err.fault _ _ _ _ _ _ _ stands c.answer_refused.ensures

pub returns-in-Err : goal.returns-in-Err
returns-in-Err g c = rw c.in-Err.ensures (yields_memory (BytesReportsBy (GnuAccepted c.args.filters.now c.args.budget) c.args.bytes.now) (IsUnaccepted c.args.bytes.now) _ _ _ _)
