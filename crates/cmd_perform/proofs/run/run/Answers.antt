use Rattle.std.proofs.Common.{refl}
use Rattle.cmd_perform.specs.TaskReport.{RunBytesReports, RunBytesRefuse}
use Rattle.cmd_input.specs.Finding.{file_bytes}
use Rattle.cmd_input.specs.Building.{refusal_of}
use Rattle.cmd_perform.proofs.Doing.{does_bytes, does_fault}
use Rattle.cmd_perform.proofs.Runners.{run_asks, run_reads}
use Rattle.cmd_perform.proofs.run.run.Goals as goal

pub returns-in-Ok-Ok : goal.returns-in-Ok-Ok
returns-in-Ok-Ok g c =
    let found = rw c.in-Ok-Ok.field-0-is at c.in-Ok-Ok.ensures.found in
    let asked = rw c.in-Ok-Ok.field-0-is at c.in-Ok-Ok.ensures.asked in
    does_bytes _ (file_bytes c.args.name.now) (RunBytesReports c.args.request) (RunBytesRefuse c.args.request) (run_asks c.args.name.now c.args.request) (run_reads c.args.name.now c.args.request) _ _ _ _ _ _ found.told found.kept _ refl asked (rw c.as_slice.ensures at c.run_bytes.ensures)

pub returns-in-Ok-Err : goal.returns-in-Ok-Err
returns-in-Ok-Err g c =
    let found = rw c.in-Ok-Err.field-0-is at c.in-Ok-Err.ensures.found in
    let asked = rw c.in-Ok-Err.field-0-is at c.in-Ok-Err.ensures.asked in
    does_fault _ (file_bytes c.args.name.now) (RunBytesReports c.args.request) (RunBytesRefuse c.args.request) (run_asks c.args.name.now c.args.request) (run_reads c.args.name.now c.args.request) _ _ _ _ _ _ _ _ _ (refusal_of c.in-Ok-Err.fault) found.told
    c.answer_files_fault.ensures.status _ refl asked c.answer_files_fault.ensures.line
