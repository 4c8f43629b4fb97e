use Rattle.std.proofs.Common.{sym, ◌∙◌, None}
use Rattle.mem_buses.proofs.Places.{unread}
use Rattle.mem_buses.proofs.PageLaws.{cell_number}
use Rattle.mem_buses.proofs.paged.read_word.Goals as goal

pub returns-in-Some : goal.returns-in-Some
returns-in-Some c = c.load32.ensures ∙ sym (cell_number 4 c.args.pages.now c.args.parts.now c.args.a _ _ c.requires.sound c.in-Some.ensures.some)

pub returns-in-None : goal.returns-in-None
returns-in-None c = sym (unread 4 c.args.a _ (c.in-None.ensures.none (λ s. None)))
