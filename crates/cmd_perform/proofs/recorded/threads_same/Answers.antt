use Rattle.cmd_perform.proofs.SameRuns.{program_by_segments, threads_same}
use Rattle.cmd_perform.proofs.recorded.threads_same.Goals as goal

pub returns : goal.returns
returns g c =
    let image = rw c.image.ensures.image at c.functions.ensures.sound in
    threads_same c.args.accepted.now (program_by_segments c.args.accepted.now _ image c.holds.ensures (g.met.B.Bus.is_map c.args.bus.now).segments c.requires.start) c.schedules_same.ensures
