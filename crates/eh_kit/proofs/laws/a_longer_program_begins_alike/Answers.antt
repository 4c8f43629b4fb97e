use Rattle.eh_kit.proofs.ProgramLaws.{longer_begins_alike}
use Rattle.eh_kit.proofs.laws.a_longer_program_begins_alike.Goals as goal

pub returns : goal.returns
returns c = longer_begins_alike
