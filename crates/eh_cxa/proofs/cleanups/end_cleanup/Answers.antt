use Rattle.eh_cxa.proofs.Meets.{end_cleanup_meets}
use Rattle.eh_cxa.proofs.cleanups.end_cleanup.Goals as goal

pub returns-clause-lists : goal.returns-clause-lists
returns-clause-lists g c = end_cleanup_meets _ _ _ _ _ _ (g.met.B.Bus.is_map _) c.end_cleanup_words.ensures
