use Rattle.std.proofs.Common.{arith}
use Rattle.eh_cxa.proofs.Meets.{allocate_meets, allocate_lowest, allocate_clears}
use Rattle.eh_cxa.proofs.allocation.allocate.Goals as goal

pub returns-clause-lists : goal.returns-clause-lists
returns-clause-lists g c = allocate_meets _ _ _ _ (g.met.B.Bus.is_map _) (omega arith) c.allocate_words.ensures

pub returns-clause-lowest : goal.returns-clause-lowest
returns-clause-lowest g c = allocate_lowest _ _ _ _ c.allocate_words.ensures

pub returns-clause-cleared : goal.returns-clause-cleared
returns-clause-cleared g c = allocate_clears _ _ _ _ (g.met.B.Bus.is_map _) (omega arith) c.allocate_words.ensures
