use Rattle.cmd_perform.proofs.SameRuns.{program_here, forces_same}
use Rattle.cmd_perform.proofs.recorded.forces_same.Goals as goal

pub returns : goal.returns
returns g c =
    let image = rw c.image.ensures.image at c.functions.ensures.sound in
    let small = rw (c.forced_type-ty.ensures.is, c.image-2.ensures.image) at c.forced_type-ty.ensures.fits in
    forces_same c.args.accepted.now (program_here c.args.accepted.now _ image c.holds.ensures (g.met.B.Bus.is_map c.args.bus.now) c.requires.start) small
    c.reaches_same.ensures c.reaches_leave_bytes.ensures c.forcings_same.ensures c.going_on_same.ensures
