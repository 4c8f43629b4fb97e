use Rattle.std.proofs.Common.{◌≡◌, drop}
use Rattle.elf_image.specs.Sorted.{overlap_from}
use Rattle.elf_image.proofs.segment.overlap_from.Given as goal

abbrev pub invariant-loop-h : goal.invariant-loop-h
invariant-loop-h l = overlap_from l.low (drop l.h-index l.headers) ≡ overlap_from 0 l.headers
