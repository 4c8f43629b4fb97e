use Rattle.std.proofs.Common.{refl}
use Rattle.thread_memory.proofs.laws.numbers_in_digits.Goals as goal

pub returns : goal.returns
returns c = record { threads = refl; first = refl; last = refl; out_of_use = refl }
