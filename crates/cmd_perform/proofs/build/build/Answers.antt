use Rattle.std.proofs.Common.{refl}
use Rattle.cmd_perform.specs.BuildReport.{IsUnwritten, plain_report}
use Rattle.cmd_input.specs.Building.{image_bytes, refusal_of}
use Rattle.cmd_answers.specs.Words.{texts}
use Rattle.cmd_perform.specs.Yields.{Only, RefusedOf}
use Rattle.cmd_answers.specs.declared.status.TheConstants.{DONE}
use Rattle.cmd_perform.proofs.Doing.{keeps_bytes, keeps_fault}
use Rattle.cmd_perform.proofs.Runners.{build_asks, build_leaves}
use Rattle.cmd_answers.proofs.Statuses.{done_says, done_reported}
use Rattle.cmd_perform.proofs.Yielding.{yields_answer}
use Rattle.cmd_perform.proofs.build.build.Goals as goal

pub returns-in-Ok-Ok : goal.returns-in-Ok-Ok
returns-in-Ok-Ok g c = λ input faults.
    let names = texts c.args.names.now in
    let bytes = c.in-Ok-Ok.bytes.items in
    let found = rw c.in-Ok-Ok.field-0-is at c.in-Ok-Ok.ensures.found in
    let asked = rw c.in-Ok-Ok.field-0-is at c.in-Ok-Ok.ensures.asked in
    let answers = rw c.as_slice.ensures.value at c.answer_text.ensures in
    keeps_bytes _ (image_bytes names) (λ bytes. Only (plain_report bytes)) (RefusedOf IsUnwritten) (build_asks names) (build_leaves names) _ _ input _ _ faults _ _ _ bytes found.told found.kept _ refl asked
    (λ other i. yields_answer (Only (plain_report bytes)) ⊥ bytes DONE _ other _ _ i _ _ (λ b. refl) (done_says ⊥ (λ u. u)) done_reported answers)

pub returns-in-Ok-Err : goal.returns-in-Ok-Err
returns-in-Ok-Err g c = λ input faults.
    let names = texts c.args.names.now in
    let refusal = refusal_of c.in-Ok-Err.fault in
    let found = rw c.in-Ok-Err.field-0-is at c.in-Ok-Err.ensures.found in
    let asked = rw c.in-Ok-Err.field-0-is at c.in-Ok-Err.ensures.asked in
    keeps_fault _ (image_bytes names) (λ bytes. Only (plain_report bytes)) (RefusedOf IsUnwritten) (build_asks names) (build_leaves names) _ _ input _ _ faults _ _ _ refusal found.told
    c.answer_files_fault.ensures.status _ refl asked c.answer_files_fault.ensures.line
