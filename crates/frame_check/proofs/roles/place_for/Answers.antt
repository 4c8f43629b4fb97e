use Rattle.frame_check.specs.Roles.{table}
use Rattle.frame_check.proofs.Tables.{grown_ready}
use Rattle.frame_check.proofs.roles.place_for.Goals as goal

pub returns-in_ok-first-in-None-clause-ready : goal.returns-in_ok-first-in-None-clause-ready
returns-in_ok-first-in-None-clause-ready c =
    grown_ready (table c.args.places.now.items c.args.roles.now.items) (table c.add_page.new.places.items c.add_page.new.roles.items) c.args.h c.in_ok-first-in-None.first c.requires (cc)
    c.in_ok-first-in-None.ensures.grown
