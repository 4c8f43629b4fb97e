use Rattle.thumb_core.proofs.Standing.{narrow, wide}
use Rattle.thumb_core.proofs.halfwords.halfwords_at.Goals as goal

pub returns-then-not-is_wide : goal.returns-then-not-is_wide
returns-then-not-is_wide g c = narrow (g.B.Bus.memory c.args.bus.now) c.args.address c.in-Ok.first c.in-Ok.ensures c.if-not-is_wide.ensures

pub returns-in-Ok-fetch16 : goal.returns-in-Ok-fetch16
returns-in-Ok-fetch16 g c = wide (g.B.Bus.memory c.args.bus.now) c.args.address c.in-Ok.first c.in-Ok-fetch16.second c.in-Ok.ensures c.if-not-is_wide.ensures c.in-Ok-fetch16.ensures
