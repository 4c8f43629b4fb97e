use Rattle.cmd_perform.specs.TaskReport.{DoesTask, RunBytesReports, PinsTask, RunBytesRefuse}
use Rattle.cmd_perform.proofs.Judging.{found_yields_by, refused_yields_by, task_found, task_refused}
use Rattle.cmd_perform.proofs.Yielding.{yields_memory_by}
use Rattle.cmd_perform.proofs.run.run_bytes.Goals as goal

pub returns-in-Ok-Ok : goal.returns-in-Ok-Ok
returns-in-Ok-Ok g c =
    let found = rw c.in-Ok-Ok.field-0-is at c.in-Ok-Ok.ensures in
    let request = c.args.request in
    found_yields_by (DoesTask request) c.args.bytes.now (PinsTask request c.in-Ok-Ok.accepted) (RunBytesRefuse request c.args.bytes.now) c.in-Ok-Ok.accepted _ _ _ found
    (λ s w. task_found request.task request.budget c.args.bytes.now c.in-Ok-Ok.accepted _ s found w) c.do_task.ensures

pub returns-in-Ok-Err : goal.returns-in-Ok-Err
returns-in-Ok-Err g c =
    let stands = rw c.in-Ok-Err.field-0-is at c.in-Ok-Err.ensures in
    let request = c.args.request in
    refused_yields_by (DoesTask request) c.args.bytes.now (RunBytesRefuse request c.args.bytes.now) c.in-Ok-Err.fault _ _ _ _ _ _ _ stands
    (task_refused request.task request.budget c.args.bytes.now c.in-Ok-Err.fault _ stands) c.answer_refused.ensures

pub returns-in-Err : goal.returns-in-Err
returns-in-Err g c = rw c.in-Err.ensures (yields_memory_by (RunBytesReports c.args.request c.args.bytes.now) (RunBytesRefuse c.args.request c.args.bytes.now) _ _ _ _)
