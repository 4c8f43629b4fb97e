use Rattle.std.proofs.Common.{ap, sym, ◌∙◌, Ok}
use Rattle.std.proofs.lemmas.Result.{err_from_is_err_and}
use Rattle.cmd_perform.proofs.Threading.{of_image, of_sources}
use Rattle.cmd_perform.proofs.threads.program_bytes.Goals as goal

pub returns-then-is_image : goal.returns-then-is_image
returns-then-is_image c =
    of_image c.args.files.items (sym (rw c.as_slice.ensures.value at c.is_image.ensures) ∙ c.if-is_image.true) ∙ ap Ok (sym c.last_bytes.ensures)

pub returns : goal.returns
returns c =
    of_sources c.args.files.items (sym (rw c.as_slice.ensures.value at c.is_image.ensures) ∙ c.if-is_image.false) ∙ c.in_ok-bytes.ensures ∙ ap Ok (sym c.of_vec.ensures)

pub returns-in_err-bytes : goal.returns-in_err-bytes
returns-in_err-bytes c =
    let p = err_from_is_err_and c.from_residual.result c.from_residual.ensures.1 in
    let none = of_sources c.args.files.items (sym (rw c.as_slice.ensures.value at c.is_image.ensures) ∙ c.if-is_image.false) in
    rw (p.1, p.2) (λ m. none ∙ c.in_err-bytes.ensures m)
