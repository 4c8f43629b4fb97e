use Rattle.eh_index.proofs.Search.{ranges_cover}
use Rattle.eh_index.proofs.laws.an_entry_covers_up_to_the_next.Goals as goal

pub returns : goal.returns
returns c = ranges_cover
