use Rattle.thumb_core.proofs.Standing.{stand_narrow, stand_wide}
use Rattle.thumb_core.proofs.halfwords.are_unchanged.Goals as goal

pub returns-then-not-is_wide : goal.returns-then-not-is_wide
returns-then-not-is_wide g c = λ e pair.
    stand_narrow (g.B.Bus.memory c.args.bus.now) c.args.address c.in-Ok.first c.args.halfwords.now c.in-Ok.ensures c.if-first-halfwords.false c.if-not-is_wide.ensures pair

pub returns : goal.returns
returns g c = λ e pair.
    stand_wide (g.B.Bus.memory c.args.bus.now) c.args.address c.in-Ok.first c.in-Ok-fetch16.second c.args.halfwords.now c.in-Ok.ensures c.if-first-halfwords.false c.if-not-is_wide.ensures
    c.in-Ok-fetch16.ensures c.if-second-halfwords.false
