use Rattle.std.proofs.Common.{◌≡◌, drop}
use Rattle.eh_threads.specs.Starting.{first_unstarted}
use Rattle.eh_threads.proofs.starting.first_unstarted.Given as goal

abbrev pub invariant-loop-number : goal.invariant-loop-number
invariant-loop-number l = first_unstarted 0 l.threads ≡ first_unstarted l.number (drop l.number l.threads)
