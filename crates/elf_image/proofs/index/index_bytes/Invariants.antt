use Rattle.std.proofs.Common.{◌≡◌, drop, find}
use Rattle.std.specs.List.{list_any}
use Rattle.elf_image.specs.Index.{holds_index}
use Rattle.elf_image.proofs.index.index_bytes.Given as goal

abbrev pub invariant-loop-s : goal.invariant-loop-s
invariant-loop-s l =
    (list_any (holds_index l.h) (drop l.s-index l.segments) ≡ list_any (holds_index l.h) l.segments)
    × (find (holds_index l.h) (drop l.s-index l.segments) ≡ find (holds_index l.h) l.segments)
