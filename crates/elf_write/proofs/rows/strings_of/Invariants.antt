use Rattle.std.proofs.Common.{◌≡◌, ◌++◌, drop}
use Rattle.std.specs.List.{flat_map}
use Rattle.elf_image.specs.Symbols.{Symbol}
use Rattle.elf_write.specs.Layout.{zero_terminated, strings_of}
use Rattle.elf_write.proofs.rows.strings_of.Given as goal

abbrev pub invariant-loop-s : goal.invariant-loop-s
invariant-loop-s l = l.out.items ++ flat_map (λ (s : Symbol). zero_terminated s.name) (drop l.s-index l.rows) ≡ strings_of l.rows
