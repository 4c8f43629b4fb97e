use Rattle.std.proofs.Common.{◌≡◌, take}
use Rattle.elf_image.specs.Segments.{by_address}
use Rattle.elf_image.specs.Sorted.{Hold}
use Rattle.elf_image.proofs.segment.by_address.Given as goal

abbrev pub invariant-loop-h : goal.invariant-loop-h
invariant-loop-h l =
    (l.entries.entries ≡ by_address (take l.h-index l.headers)) × Hold l.entries.entries (take l.h-index l.headers)
