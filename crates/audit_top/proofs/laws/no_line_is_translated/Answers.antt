use Rattle.audit_top.proofs.Entries.{no_line_is_translated}
use Rattle.audit_top.proofs.laws.no_line_is_translated.Goals as goal

pub returns : goal.returns
returns c = no_line_is_translated
