use Rattle.eh_cxa.proofs.Meets.{rethrow_meets}
use Rattle.eh_cxa.proofs.catching.rethrow.Goals as goal

pub returns-clause-lists : goal.returns-clause-lists
returns-clause-lists g c = rethrow_meets _ _ _ _ _ (g.met.B.Bus.is_map _) c.rethrow_words.ensures
