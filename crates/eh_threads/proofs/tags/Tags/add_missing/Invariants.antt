use Rattle.std.proofs.Common.{◌≡◌, ◌-◌, length}
use Rattle.eh_threads.specs.Tags.{with_tags}
use Rattle.eh_threads.proofs.tags.Tags.add_missing.Given as goal

abbrev pub invariant-loop-missing : goal.invariant-loop-missing
invariant-loop-missing l = with_tags l.thread l.missing l.self ≡ with_tags l.thread (l.count - length l.initial.self) l.initial.self

abbrev pub decreases-loop-missing : goal.decreases-loop-missing
decreases-loop-missing l = l.missing
