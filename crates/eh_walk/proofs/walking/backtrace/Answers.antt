use Rattle.std.proofs.Common.{sym}
use Rattle.sim_machines.specs.Checked.{program_of}
use Rattle.eh_walk.proofs.Backtraces.{walked_from, activations}
use Rattle.eh_walk.proofs.walking.backtrace.Goals as goal

pub returns-in-Some-clause-recorded : goal.returns-in-Some-clause-recorded
returns-in-Some-clause-recorded g c =
    let p = program_of c.args.a.now in
    let m = g.B.Bus.memory c.args.shared.now.bus in
    activations c.args.a.now c.args.core.now m c.args.most c.walk_from.result (rw c.image.ensures.image at c.functions.ensures.sound) c.holds.ensures
    (walked_from p c.args.core.now m c.args.most c.walk_from.result c.in-Some.site c.tables.result.index (sym c.in-Some.ensures) c.tables.ensures.index c.walk_from.ensures)
