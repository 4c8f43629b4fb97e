use Rattle.cmd_perform.proofs.SameRuns.{program_here, run_same, slots_stay}
use Rattle.cmd_perform.proofs.recorded.runs_same.Goals as goal

pub returns-clause-same : goal.returns-clause-same
returns-clause-same g c =
    let image = rw c.image.ensures.image at c.functions.ensures.sound in
    run_same c.args.accepted.now (program_here c.args.accepted.now _ image c.holds.ensures (g.met.B.Bus.is_map c.args.bus.now) c.requires.start) c.runs_same.ensures

pub returns-clause-guarded : goal.returns-clause-guarded
returns-clause-guarded g c =
    let image = rw c.image.ensures.image at c.functions.ensures.sound in
    slots_stay c.args.accepted.now (program_here c.args.accepted.now _ image c.holds.ensures (g.met.B.Bus.is_map c.args.bus.now) c.requires.start) c.runs_guard.ensures
