use Rattle.eh_index.proofs.Search.{entries_stand, first_words_clear}
use Rattle.eh_index.proofs.laws.entries_stand_in_the_image.Goals as goal

pub returns : goal.returns
returns c = record { stand = entries_stand; clear = first_words_clear }
