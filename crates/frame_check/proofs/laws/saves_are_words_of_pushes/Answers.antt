use Rattle.frame_check.proofs.Saving.{saves_are_words}
use Rattle.frame_check.proofs.laws.saves_are_words_of_pushes.Goals as goal

pub returns : goal.returns
returns c = saves_are_words
