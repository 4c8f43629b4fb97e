use Rattle.eh_cxa.proofs.Meets.{free_meets}
use Rattle.eh_cxa.proofs.allocation.free.Goals as goal

pub returns-clause-lists : goal.returns-clause-lists
returns-clause-lists g c = free_meets _ _ _ _ (g.met.B.Bus.is_map _) c.free_words.ensures
