use Rattle.std.proofs.Common.{◌≡◌, ◌+◌, ◌++◌, drop, length}
use Rattle.elf_write.specs.Layout.{contents}
use Rattle.elf_write.proofs.layout.contents.Given as goal

abbrev pub invariant-loop-s : goal.invariant-loop-s
invariant-loop-s l = l.out.items ++ contents (l.base + length l.out.items) (drop l.s-index l.segments) ≡ contents l.base l.segments
