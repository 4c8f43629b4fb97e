use Rattle.std.proofs.Common.{refl}
use Rattle.cmd_answers.specs.Words.{texts}
use Rattle.cmd_input.specs.Building.{refusal_of}
use Rattle.cmd_perform.specs.ThreadsReport.{RefusesThreaded, ThreadsBytesReports, thread_program_or_refusal}
use Rattle.cmd_perform.proofs.Doing.{does_bytes, does_fault}
use Rattle.cmd_perform.proofs.Runners.{threads_asks, threads_reads}
use Rattle.cmd_perform.proofs.threads.threads.Goals as goal

pub returns-in-Ok-Ok : goal.returns-in-Ok-Ok
returns-in-Ok-Ok g c =
    let names = texts c.args.names.now in
    let found = rw c.in-Ok-Ok.field-0-is at c.in-Ok-Ok.ensures.found in
    let asked = rw c.in-Ok-Ok.field-0-is at c.in-Ok-Ok.ensures.asked in
    does_bytes _ (thread_program_or_refusal names) (ThreadsBytesReports c.args.budget) RefusesThreaded (threads_asks names c.args.budget) (threads_reads names c.args.budget) _ _ _ _ _ _ found.told found.kept _ refl asked
    (rw (c.as_slice.ensures, c.as_slice-in-Ok-Ok.ensures.value) at c.threads_bytes.ensures)

pub returns-in-Ok-Err : goal.returns-in-Ok-Err
returns-in-Ok-Err g c =
    let names = texts c.args.names.now in
    let found = rw c.in-Ok-Err.field-0-is at c.in-Ok-Err.ensures.found in
    let asked = rw c.in-Ok-Err.field-0-is at c.in-Ok-Err.ensures.asked in
    does_fault _ (thread_program_or_refusal names) (ThreadsBytesReports c.args.budget) RefusesThreaded (threads_asks names c.args.budget) (threads_reads names c.args.budget) _ _ _ _ _ _ _ _ _ (refusal_of c.in-Ok-Err.fault) found.told
    c.answer_files_fault.ensures.status _ refl asked c.answer_files_fault.ensures.line
