use Rattle.std.proofs.Common.{refl}
use Rattle.eh_port.specs.declared.files.FileAnswer.TheVariants as answer
use Rattle.audit_top.proofs.Files.{does_found, does_lack}
use Rattle.audit_top.proofs.report.answer_file.Goals as goal

pub returns-in-Found : goal.returns-in-Found
returns-in-Found g c =
    does_found c.args.name.now _ _ _ _ _ _ c.in_ok-bytes.ensures.cause.kept c.in_ok-bytes.ensures.once _ (rw c.in-Found.is at c.in_ok-bytes.ensures.answer) _
    (rw c.as_slice.ensures at c.answer_bytes.ensures)

pub returns-in-Missing : goal.returns-in-Missing
returns-in-Missing g c =
    does_lack c.args.name.now _ _ _ _ _ _ c.in_ok-bytes.ensures.cause.kept c.in_ok-bytes.ensures.once answer.Missing _ (rw c.in-Missing.is at c.in_ok-bytes.ensures.answer)
    tt (λ a. a) (λ a. a) refl _ c.answer_missing.ensures

pub returns-in-TooLong : goal.returns-in-TooLong
returns-in-TooLong g c =
    does_lack c.args.name.now _ _ _ _ _ _ c.in_ok-bytes.ensures.cause.kept c.in_ok-bytes.ensures.once answer.TooLong _ (rw c.in-TooLong.is at c.in_ok-bytes.ensures.answer)
    tt (λ a. a) (λ a. a) refl _ c.answer_too_long.ensures
