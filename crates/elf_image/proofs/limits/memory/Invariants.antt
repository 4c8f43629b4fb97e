use Rattle.std.proofs.Common.{◌≡◌, ◌+◌, drop, sum_by}
use Rattle.elf_image.specs.Segments.{Segment}
use Rattle.elf_image.proofs.limits.memory.Given as goal

abbrev pub invariant-loop-s : goal.invariant-loop-s
invariant-loop-s l = l.total + sum_by (λ (s : Segment). s.size) (drop l.s-index l.segments) ≡ sum_by (λ (s : Segment). s.size) l.segments
