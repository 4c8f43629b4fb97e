use Rattle.std.proofs.Common.{◌≡◌, [], fold, take}
use Rattle.elf_image.specs.Marks.{with_mark}
use Rattle.elf_image.proofs.mark.marks_by_address.Given as goal

abbrev pub invariant-loop-s : goal.invariant-loop-s
invariant-loop-s l = l.marks.entries ≡ fold with_mark [] (take l.s-index l.symbols)
