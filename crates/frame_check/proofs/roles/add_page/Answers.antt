use Rattle.std.proofs.Common.{arith, refl}
use Rattle.frame_check.proofs.Tables.{grown, resized}
use Rattle.frame_check.proofs.roles.add_page.Goals as goal

pub returns-clause-grown : goal.returns-clause-grown
returns-clause-grown c =
    grown c.args.places.now.items c.extend_directory.new.places.items _ c.args.roles.now.items c.resize.new.self.items c.args.n c.in-Ok.page c.requires.sound
    (omega (arith, c.in_ok-extend_directory.ensures.room, c.extend_directory.new.places.ok.0)) c.extend_directory.ensures.same (omega (arith, c.in-Ok.ensures, c.len.ensures, c.args.roles.now.ok.0)) refl
    (resized c.args.roles.now.items c.resize.new.self.items c.in-Some.len c.args.roles.now.len (omega (arith, c.in-Some.ensures, c.len-2.ensures)) (omega (arith, c.args.roles.now.ok.0)) c.in_ok-resize.ensures.items)
