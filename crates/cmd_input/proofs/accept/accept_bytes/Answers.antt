use Rattle.std.proofs.Common.{◌∙◌, sym, ap, Ok}
use Rattle.cmd_input.proofs.accept.accept_bytes.Goals as goal

pub returns-in-Ok-check : goal.returns-in-Ok-check
returns-in-Ok-check c = record { image = c.in-Ok.ensures.image ∙ ap Ok (sym c.in-Ok-check.ensures.same); sound = c.holds.ensures }

pub returns-in-Err : goal.returns-in-Err
returns-in-Err c = c.in-Err.ensures.refused c.in_default.not-OutOfMemory

pub returns-in_default-fault : goal.returns-in_default-fault
returns-in_default-fault c =
    record { image = c.in-Ok.image; is = c.in-Ok.ensures.image; stands = c.in-Err-check.ensures.refused c.in_default-fault.not-OutOfMemory; unaccepted = c.in-Err-check.ensures.exact c.in_default-fault.not-OutOfMemory }
