use Rattle.std.proofs.Common.{refl}
use Rattle.eh_threads.proofs.laws.numbers_in_digits.Goals as goal

pub returns : goal.returns
returns c = record { gate = refl; none = refl }
