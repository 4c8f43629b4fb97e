use Rattle.std.proofs.Common.{refl}
use Rattle.thread_schedule.proofs.laws.numbers_in_digits.Goals as goal

pub returns : goal.returns
returns c = record { digits = (refl, refl); feed = refl; tags = (refl, refl) }
