use Rattle.eh_gates.specs.State.{state_of}
use Rattle.cmd_perform.specs.WalkReport.{bytes_walk}
use Rattle.cmd_perform.proofs.WalkReports.{says_end}
use Rattle.cmd_perform.proofs.walk.answer_walk.Goals as goal

pub returns : goal.returns
returns g c =
    let m = c.args.machine.now in
    rw (says_end m.accepted.now m.events (bytes_walk m.accepted.now (state_of m.core (g.B.Bus.memory m.shared.bus) m.events)) c.args.end c.in_default.not-Budget) (rw c.events-2.ensures at c.answer_run.ensures)
