use Rattle.std.proofs.lemmas.Result.{err_from_is_err_and}
use Rattle.cmd_input.specs.Building.{fault_line}
use Rattle.cmd_perform.proofs.Threading.{both, no_bytes, no_digits}
use Rattle.cmd_perform.proofs.threads.thread_program_from.Goals as goal

pub returns-in_err-digits : goal.returns-in_err-digits
returns-in_err-digits c =
    let p = err_from_is_err_and c.from_residual.result c.from_residual.ensures.1 in
    let h = rw (c.name.ensures, c.text.ensures) at c.in_err-digits.ensures in
    rw (p.1, p.2) (λ m. no_digits c.args.program.items c.args.schedule (fault_line c.in_err-digits.field-0.0) (h m))

pub returns-in_err-image : goal.returns-in_err-image
returns-in_err-image c =
    let p = err_from_is_err_and c.from_residual-in_err-image.result c.from_residual-in_err-image.ensures.1 in
    let h = rw (c.name.ensures, c.text.ensures) at c.in_ok-digits.ensures in
    rw (p.1, p.2) (λ m. no_bytes c.args.program.items c.args.schedule c.in_ok-digits.digits.items (fault_line c.in_err-image.field-0.0) h (c.in_err-image.ensures m))

pub returns : goal.returns
returns c =
    let h = rw (c.name.ensures, c.text.ensures) at c.in_ok-digits.ensures in
    both c.args.program.items c.args.schedule c.in_ok-digits.digits.items c.in_ok-image.image h c.in_ok-image.ensures
