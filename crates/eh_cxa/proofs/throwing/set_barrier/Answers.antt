use Rattle.std.proofs.Common.{arith}
use Rattle.eh_cxa.proofs.Meets.{barrier_meets, barrier_open}
use Rattle.eh_cxa.proofs.throwing.set_barrier.Goals as goal

pub returns-clause-lists : goal.returns-clause-lists
returns-clause-lists g c =
    barrier_meets _ _ _ _ (g.met.B.Bus.is_map _) (record { sp = omega arith; object = omega arith; desc = omega arith; pointer = omega arith }) c.barrier_words.ensures

pub returns-clause-pointer : goal.returns-clause-pointer
returns-clause-pointer g c =
    barrier_open _ _ _ _ (g.met.B.Bus.is_map _) (record { sp = omega arith; object = omega arith; desc = omega arith; pointer = omega arith }) c.barrier_words.ensures c.requires
