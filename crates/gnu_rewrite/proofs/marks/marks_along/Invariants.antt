use Rattle.std.proofs.Common.{◌≡◌, ◌++◌, drop}
use Rattle.std.specs.List.{flat_map}
use Rattle.gnu_rewrite.specs.Marks.{marks_in}
use Rattle.gnu_rewrite.proofs.marks.marks_along.Given as goal

abbrev pub invariant-loop-s : goal.invariant-loop-s
invariant-loop-s l = l.marks.items ++ flat_map (marks_in l.image) (drop l.s-index l.segments) ≡ flat_map (marks_in l.image) l.segments
