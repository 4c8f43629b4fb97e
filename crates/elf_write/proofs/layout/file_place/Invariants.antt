use Rattle.std.proofs.Common.{◌≡◌, ◌+◌, drop, length}
use Rattle.elf_write.specs.Layout.{contents, file_place}
use Rattle.elf_write.proofs.layout.file_place.Given as goal

abbrev pub invariant-loop-s : goal.invariant-loop-s
invariant-loop-s l =
    (l.end + length (contents l.end (drop l.s-index l.segments)) ≡ l.base + length (contents l.base l.segments))
    × (file_place l.address l.size l.end (drop l.s-index l.segments) ≡ file_place l.address l.size l.base l.segments)
