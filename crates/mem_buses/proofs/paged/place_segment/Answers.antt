use Rattle.std.proofs.Common.{◌≡◌, length, arith}
use Rattle.std.proofs.lemmas.Grind.{common_steps}
use Rattle.mem_buses.proofs.PageBuild.{lays_more}
use Rattle.mem_buses.proofs.paged.place_segment.Goals as goal

pub returns-clause-laid : goal.returns-clause-laid
returns-clause-laid c =
    let e : c.in-Ok.owner ≡ length c.args.parts.now.items = grind (arith, common_steps) in
    let f = rw e at c.in_ok-fill.ensures.filled in
    rw c.in_ok-push.ensures.items (lays_more c.args.pages.now c.fill.new.self c.args.parts.now.items c.args.spec.now _ c.requires.lays f c.requires.fits c.requires.apart)
