use Rattle.std.proofs.Common.{arith}
use Rattle.eh_cxa.proofs.Meets.{throw_meets}
use Rattle.eh_cxa.proofs.throwing.start_throw.Goals as goal

pub returns-clause-lists : goal.returns-clause-lists
returns-clause-lists g c = throw_meets _ _ _ _ _ _ _ (g.met.B.Bus.is_map _) (record { ty = omega arith; destructor = omega arith }) c.throw_words.ensures
