use Rattle.thread_schedule.proofs.Reading.{Reads}
use Rattle.thread_schedule.proofs.schedule.read_schedule.Given as goal

abbrev pub invariant-loop-at : goal.invariant-loop-at
invariant-loop-at l = Reads l.text l.digits.items l.at
