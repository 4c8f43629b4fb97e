use Rattle.std.proofs.Common.{sym, ◌∙◌, ap, option_copied}
use Rattle.eh_index.proofs.Places.{has_some, has_none}
use Rattle.eh_index.proofs.place.has_bytes.Goals as goal

pub returns-in-Some : goal.returns-in-Some
returns-in-Some c = has_some c.args.image.now.segments c.args.a _ (sym (ap option_copied c.in-Some.is) ∙ c.bytes_at.ensures)

pub returns-in-None : goal.returns-in-None
returns-in-None c = has_none c.args.image.now.segments c.args.a (sym (ap option_copied c.in-None.is) ∙ c.bytes_at.ensures)
