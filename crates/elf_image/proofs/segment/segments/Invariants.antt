use Rattle.std.proofs.Common.{◌≡◌, take, map}
use Rattle.elf_image.specs.Segments.{segment_of}
use Rattle.elf_image.proofs.segment.segments.Given as goal

abbrev pub invariant-loop-h : goal.invariant-loop-h
invariant-loop-h l = l.segments.items ≡ map (λ h. segment_of l.bytes h) (take l.h-index l.headers)
