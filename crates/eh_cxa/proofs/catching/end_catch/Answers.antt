use Rattle.eh_cxa.proofs.Meets.{end_catch_meets}
use Rattle.eh_cxa.proofs.catching.end_catch.Goals as goal

pub returns-clause-lists : goal.returns-clause-lists
returns-clause-lists g c = end_catch_meets _ _ _ _ _ (g.met.B.Bus.is_map _) c.end_catch_words.ensures
