use Rattle.std.proofs.Common.{refl}
use Rattle.cmd_input.specs.Accepting.{BytesReportsBy, IsUnaccepted}
use Rattle.cmd_input.specs.Building.{image_bytes, refusal_of}
use Rattle.cmd_perform.specs.CheckReport.{ChecksAccepted}
use Rattle.cmd_answers.specs.Words.{texts}
use Rattle.cmd_perform.specs.Yields.{RefusedOf}
use Rattle.cmd_perform.proofs.Doing.{keeps_bytes, keeps_fault}
use Rattle.cmd_perform.proofs.Runners.{check_sources_asks, check_sources_leaves}
use Rattle.cmd_perform.proofs.check.check_sources.Goals as goal

pub returns-in-Ok-Ok : goal.returns-in-Ok-Ok
returns-in-Ok-Ok g c = λ input faults.
    let names = texts c.args.names.now in
    let found = rw c.in-Ok-Ok.field-0-is at c.in-Ok-Ok.ensures.found in
    let asked = rw c.in-Ok-Ok.field-0-is at c.in-Ok-Ok.ensures.asked in
    keeps_bytes _ (image_bytes names) (BytesReportsBy ChecksAccepted) (RefusedOf IsUnaccepted) (check_sources_asks names) (check_sources_leaves names) _ _ input _ _ faults _ _ _ _ found.told found.kept _ refl asked
    (rw c.as_slice.ensures.value at c.check_bytes.ensures)

pub returns-in-Ok-Err : goal.returns-in-Ok-Err
returns-in-Ok-Err g c = λ input faults.
    let names = texts c.args.names.now in
    let found = rw c.in-Ok-Err.field-0-is at c.in-Ok-Err.ensures.found in
    let asked = rw c.in-Ok-Err.field-0-is at c.in-Ok-Err.ensures.asked in
    keeps_fault _ (image_bytes names) (BytesReportsBy ChecksAccepted) (RefusedOf IsUnaccepted) (check_sources_asks names) (check_sources_leaves names) _ _ input _ _ faults _ _ _ (refusal_of c.in-Ok-Err.fault) found.told
    c.answer_files_fault.ensures.status _ refl asked c.answer_files_fault.ensures.line
