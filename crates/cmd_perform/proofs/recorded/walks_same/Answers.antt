use Rattle.cmd_perform.proofs.SameRuns.{program_here, walk_same}
use Rattle.cmd_perform.proofs.recorded.walks_same.Goals as goal

pub returns : goal.returns
returns g c =
    let image = rw c.image.ensures.image at c.functions.ensures.sound in
    walk_same c.args.accepted.now (program_here c.args.accepted.now _ image c.holds.ensures (g.met.B.Bus.is_map c.args.bus.now) c.requires.start) c.reaches_same.ensures c.walks_same.ensures
