use Rattle.std.proofs.Common.{◌≡◌, drop}
use Rattle.eh_threads.specs.Threads.{none_runs}
use Rattle.eh_threads.proofs.thread.none_runs.Given as goal

abbrev pub invariant-loop-thread : goal.invariant-loop-thread
invariant-loop-thread l = none_runs l.threads ≡ none_runs (drop l.thread-index l.threads)
