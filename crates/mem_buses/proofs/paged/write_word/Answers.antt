use Rattle.std.proofs.Common.{None}
use Rattle.mem_buses.proofs.PageLaws.{pages_stored, pages_unwritten}
use Rattle.mem_buses.proofs.paged.write_word.Goals as goal

pub returns-in-Some-clause-made : goal.returns-in-Some-clause-made
returns-in-Some-clause-made c =
    let s = c.requires.stand in
    pages_stored 4 c.args.pages.now c.store32.new.self c.args.parts.now c.args.a _ _ c.args.v s.sound s.used s.owned s.mapped c.in-Some.ensures.some c.store32.ensures

pub returns-in-None-clause-made : goal.returns-in-None-clause-made
returns-in-None-clause-made c =
    let s = c.requires.stand in
    pages_unwritten 4 c.args.pages.now c.args.parts.now c.args.a c.args.v s.sound s.used s.owned s.mapped (c.in-None.ensures.none (λ s. None))
