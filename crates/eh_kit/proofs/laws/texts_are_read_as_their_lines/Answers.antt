use Rattle.eh_kit.proofs.LineLaws.{lines_are_read}
use Rattle.eh_kit.proofs.laws.texts_are_read_as_their_lines.Goals as goal

pub returns : goal.returns
returns c = lines_are_read
