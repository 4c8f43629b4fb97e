use Rattle.std.proofs.Common.{arith}
use Rattle.eh_cxa.proofs.Meets.{begin_cleanup_meets}
use Rattle.eh_cxa.proofs.cleanups.begin_cleanup.Goals as goal

pub returns-clause-lists : goal.returns-clause-lists
returns-clause-lists g c = begin_cleanup_meets _ _ _ _ _ _ (g.met.B.Bus.is_map _) (omega arith) (record { next = omega arith; sp = omega arith; site = omega arith }) c.begin_cleanup_words.ensures
