use Rattle.cmd_perform.proofs.Threading.{digits_read, digits_refused}
use Rattle.cmd_perform.proofs.threads.digits_of.Goals as goal

pub returns-in-Ok : goal.returns-in-Ok
returns-in-Ok c = digits_read c.args.name.now c.args.text.now c.in-Ok.digits.items c.in-Ok.ensures.read

pub returns-in-Err-BadSchedule : goal.returns-in-Err-BadSchedule
returns-in-Err-BadSchedule c =
    let refused = rw c.in-Err-BadSchedule.field-0-is at c.in-Err-BadSchedule.ensures.refused in
    λ _. digits_refused c.args.name.now c.args.text.now c.in-Err-BadSchedule.at refused
