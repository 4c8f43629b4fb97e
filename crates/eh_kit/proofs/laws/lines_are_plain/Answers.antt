use Rattle.eh_kit.proofs.LineLaws.{lines_are_plain}
use Rattle.eh_kit.proofs.laws.lines_are_plain.Goals as goal

pub returns : goal.returns
returns c = lines_are_plain
