use Rattle.std.proofs.Common.{◌≡◌, map, take}
use Rattle.gnu_rewrite.specs.Segments.{kept_segment}
use Rattle.gnu_rewrite.proofs.segments.kept_segments.Given as goal

abbrev pub invariant-loop-s : goal.invariant-loop-s
invariant-loop-s l = l.segments.items ≡ map kept_segment (take l.s-index l.all)
