use Rattle.eh_types.proofs.Written.{words_are_fixed}
use Rattle.eh_types.proofs.laws.words_are_fixed.Goals as goal

pub returns : goal.returns
returns c = words_are_fixed
