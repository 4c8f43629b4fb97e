use Rattle.mem_laws.proofs.Guarded.{words_stay}
use Rattle.mem_laws.proofs.guarded_words_stay.Goals as goal

pub returns : goal.returns
returns c = words_stay
