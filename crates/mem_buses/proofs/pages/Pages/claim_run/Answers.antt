use Rattle.std.proofs.Common.{arith}
use Rattle.mem_buses.proofs.PageLaws.{cell_room}
use Rattle.mem_buses.proofs.PageBuild.{run_claimed}
use Rattle.mem_buses.proofs.pages.Pages.claim_run.Goals as goal

pub set_run-requires-clause-bytes : goal.set_run-requires-clause-bytes
set_run-requires-clause-bytes c = let r = c.in_ok-at.ensures in cell_room c.cell_for.new.self c.args.a _ c.args.size r.sound r.cell c.requires.one_page

pub set_run-requires-clause-owners : goal.set_run-requires-clause-owners
set_run-requires-clause-owners c =
    let r = c.in_ok-at.ensures in
    let room = cell_room c.cell_for.new.self c.args.a _ c.args.size r.sound r.cell c.requires.one_page in
    omega (arith, room, (r.sound).owners)

pub returns : goal.returns
returns c = run_claimed c.args.self.now c.cell_for.new.self c.set_run.new.self c.args.a _ c.args.size c.args.given.now c.args.owner c.requires.used c.in_ok-at.ensures c.requires.some c.requires.one_page c.set_run.ensures
