use Rattle.eh_cxa.proofs.Meets.{land_meets}
use Rattle.eh_cxa.proofs.throwing.land.Goals as goal

pub returns-clause-lists : goal.returns-clause-lists
returns-clause-lists g c = land_meets _ _ _ (g.met.B.Bus.is_map _) c.land_words.ensures
