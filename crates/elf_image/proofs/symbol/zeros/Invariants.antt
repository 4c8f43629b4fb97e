use Rattle.std.proofs.Common.{◌≡◌, ◌++◌, drop}
use Rattle.elf_image.specs.Symbols.{zeros_from}
use Rattle.elf_image.proofs.symbol.zeros.Given as goal

abbrev pub invariant-loop-at : goal.invariant-loop-at
invariant-loop-at l = l.zeros.items ++ zeros_from l.at (drop l.at l.strings) ≡ zeros_from 0 l.strings
