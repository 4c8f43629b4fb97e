use Rattle.std.proofs.Common.{◌≡◌, ◌+◌, ◌*◌, ◌≤◌, ◌++◌, drop, length}
use Rattle.elf_write.specs.Layout.{contents, section_rows}
use Rattle.elf_write.proofs.layout.section_rows.Given as goal

abbrev pub invariant-loop-s : goal.invariant-loop-s
invariant-loop-s l =
    (l.end + length (contents l.end (drop l.s-index l.segments)) ≡ l.base + length (contents l.base l.segments))
    × (l.i ≡ l.s-index) × (l.name ≤ 1 + 9 * l.s-index)
    × (l.out.items ++ section_rows l.i l.name l.end (drop l.s-index l.segments) ≡ section_rows 0 1 l.base l.segments)
