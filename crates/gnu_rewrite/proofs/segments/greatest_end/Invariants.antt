use Rattle.std.proofs.Common.{◌≡◌, ◌≤◌, drop, fold}
use Rattle.std.specs.Prelude.{max}
use Rattle.elf_image.specs.Segments.{segment_end}
use Rattle.elf_image.specs.declared.limits.TheConstants.{ADDRESS_LIMIT}
use Rattle.gnu_rewrite.specs.Segments.{greatest_end}
use Rattle.gnu_rewrite.proofs.segments.greatest_end.Given as goal

abbrev pub invariant-loop-s : goal.invariant-loop-s
invariant-loop-s l = record {
  end : fold (λ end s. max end (segment_end s)) l.end (drop l.s-index l.segments) ≡ greatest_end l.segments;
  low : l.end ≤ ADDRESS_LIMIT;
}
