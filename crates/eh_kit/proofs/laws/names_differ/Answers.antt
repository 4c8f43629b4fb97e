use Rattle.eh_kit.proofs.ProgramLaws.{names_differ}
use Rattle.eh_kit.proofs.laws.names_differ.Goals as goal

pub returns : goal.returns
returns c = names_differ
