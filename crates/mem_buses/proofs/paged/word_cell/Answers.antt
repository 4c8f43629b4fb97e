use Rattle.mem_buses.proofs.PageLaws.{if_located}
use Rattle.mem_buses.proofs.paged.word_cell.Goals as goal

pub returns-clause-some : goal.returns-clause-some
returns-clause-some c = if_located c.args.pages.now c.args.parts.now c.args.a c.find.result c.requires.aligned c.requires.sound c.find.ensures.inside c.find.ensures.covers c.find.ensures.place c.find.ensures.cell
