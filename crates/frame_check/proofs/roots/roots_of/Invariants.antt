use Rattle.std.proofs.Common.{◌≡◌, ◌++◌, None, drop}
use Rattle.frame_check.specs.Roots.{types_from}
use Rattle.frame_check.proofs.roots.roots_of.Given as goal

abbrev pub invariant-loop-f : goal.invariant-loop-f
invariant-loop-f l = l.roots.items ++ types_from l.index l.before (drop l.f-index l.index.functions) ≡ types_from l.index None l.index.functions
