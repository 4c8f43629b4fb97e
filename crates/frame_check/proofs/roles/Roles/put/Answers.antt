use Rattle.std.proofs.Common.{subst, ◌/◌}
use Rattle.frame_check.specs.Roles.{Table, table, Ready}
use Rattle.frame_check.proofs.Tables.{put_here}
use Rattle.frame_check.proofs.roles.Roles.put.Goals as goal

pub returns : goal.returns
returns c =
    put_here c.args.self.now (table c.place_for.new.places.items c.place_for.new.roles.items) c.args.a c.in_ok-at.at c.args.role c.place_for.ensures.sound c.requires
    (subst (λ (t : Table). Ready t (table c.place_for.new.places.items c.place_for.new.roles.items) (c.args.a / 2) c.in_ok-at.at) c.self.view_is c.in_ok-at.ensures.ready)
