use Rattle.std.proofs.Common.{sym, ◌∙◌, ap, option_copied}
use Rattle.eh_index.proofs.Places.{executes_none}
use Rattle.eh_index.proofs.place.executes.Goals as goal

pub returns-in-None-clause-executes : goal.returns-in-None-clause-executes
returns-in-None-clause-executes c = sym (executes_none c.args.image.now c.args.a c.segment_at.ensures.sound (sym c.segment_at.ensures.found ∙ ap option_copied c.in-None.is))
