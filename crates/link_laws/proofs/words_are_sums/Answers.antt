use Rattle.link_laws.proofs.Joined.{law_of_words}
use Rattle.link_laws.proofs.words_are_sums.Goals as goal

pub returns : goal.returns
returns c = law_of_words
