use Rattle.cmd_perform.proofs.SameRuns.{program_here, gnu_same}
use Rattle.cmd_perform.proofs.recorded.gnu_same.Goals as goal

pub returns : goal.returns
returns g c =
    let image = rw c.image.ensures.image at c.functions.ensures.sound in
    gnu_same c.args.filters.now c.args.accepted.now (program_here c.args.accepted.now _ image c.holds.ensures (g.met.B.Bus.is_map c.args.bus.now) c.requires.start) c.gnu_runs_same.ensures.start
