use Rattle.std.proofs.Common.{◌≡◌, ◌++◌}
use Rattle.gnu_rewrite.specs.Marks.{marks_from}
use Rattle.gnu_rewrite.proofs.marks.push_from.Given as goal

abbrev pub invariant-loop-k : goal.invariant-loop-k
invariant-loop-k l = l.marks.items ≡ l.initial.marks.items ++ marks_from l.image l.start l.k
