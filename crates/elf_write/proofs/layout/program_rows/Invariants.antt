use Rattle.std.proofs.Common.{◌≡◌, ◌+◌, ◌++◌, drop, length}
use Rattle.elf_write.specs.Layout.{contents, program_rows}
use Rattle.elf_write.proofs.layout.program_rows.Given as goal

abbrev pub invariant-loop-s : goal.invariant-loop-s
invariant-loop-s l =
    (l.end + length (contents l.end (drop l.s-index l.segments)) ≡ l.base + length (contents l.base l.segments))
    × (l.out.items ++ program_rows l.end (drop l.s-index l.segments) ≡ program_rows l.base l.segments)
