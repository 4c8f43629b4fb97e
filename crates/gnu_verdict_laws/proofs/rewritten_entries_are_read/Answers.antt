use Rattle.gnu_verdict_laws.proofs.Made.{law_of_entries}
use Rattle.gnu_verdict_laws.proofs.rewritten_entries_are_read.Goals as goal

pub returns : goal.returns
returns c = law_of_entries
