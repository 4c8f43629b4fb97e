use Rattle.std.proofs.Common.{◌∙◌, ap, length, refl}
use Rattle.elf_image.specs.Image.{Image}
use Rattle.cmd_input.specs.Accepting.{BytesReportsBy, IsUnaccepted}
use Rattle.cmd_perform.specs.CheckReport.{ChecksAccepted}
use Rattle.cmd_lines.specs.CheckText.{accepted_line}
use Rattle.cmd_answers.specs.declared.status.TheConstants.{DONE}
use Rattle.cmd_perform.proofs.Judging.{found_yields, refused_yields}
use Rattle.cmd_answers.proofs.Statuses.{done_says, done_reported}
use Rattle.cmd_perform.proofs.Yielding.{yields_answer, yields_memory}
use Rattle.cmd_perform.proofs.check.check_bytes.Goals as goal

pub returns-in-Ok-Ok : goal.returns-in-Ok-Ok
returns-in-Ok-Ok g c = λ input faults.
    let a = c.in-Ok-Ok.accepted in
    let found = rw c.in-Ok-Ok.field-0-is at c.in-Ok-Ok.ensures in
    let functions = c.functions-count.ensures.functions ∙ ap (λ (i : Image). i.functions) c.image.ensures.image in
    let line = c.as_slice.ensures.value ∙ c.accepted_line.ensures ∙ ap (λ fs. accepted_line (length fs)) functions in
    found_yields ChecksAccepted c.args.bytes.now a _ _ _ found
    (yields_answer (ChecksAccepted a) ⊥ (accepted_line (length a.image.functions)) DONE _ input _ _ faults _ _ (λ b. refl) (done_says ⊥ (λ u. u)) done_reported (rw line at c.answer_text.ensures))

pub returns-in-Ok-Err : goal.returns-in-Ok-Err
returns-in-Ok-Err g c = λ input faults.
    let stands = rw c.in-Ok-Err.field-0-is at c.in-Ok-Err.ensures in
    refused_yields ChecksAccepted c.args.bytes.now c.in-Ok-Err.fault _ input _ _ faults _ _ stands c.answer_refused.ensures

pub returns-in-Err : goal.returns-in-Err
returns-in-Err g c = λ input faults. rw c.in-Err.ensures (yields_memory (BytesReportsBy ChecksAccepted c.args.bytes.now) (IsUnaccepted c.args.bytes.now) input _ faults _)
