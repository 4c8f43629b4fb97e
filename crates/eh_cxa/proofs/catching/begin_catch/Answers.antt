use Rattle.std.proofs.Common.{arith}
use Rattle.eh_cxa.proofs.Meets.{begin_catch_meets}
use Rattle.eh_cxa.proofs.catching.begin_catch.Goals as goal

pub returns-clause-lists : goal.returns-clause-lists
returns-clause-lists g c = begin_catch_meets _ _ _ _ _ _ (g.met.B.Bus.is_map _) (omega arith) c.catch_words.ensures
