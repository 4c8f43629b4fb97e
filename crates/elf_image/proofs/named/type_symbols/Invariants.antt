use Rattle.std.proofs.Common.{◌≡◌, ◌++◌, drop}
use Rattle.elf_image.specs.Image.{type_symbols_of}
use Rattle.elf_image.proofs.named.type_symbols.Given as goal

abbrev pub invariant-loop-n : goal.invariant-loop-n
invariant-loop-n l = l.all.items ++ type_symbols_of (drop l.n-index l.symbols) ≡ type_symbols_of l.symbols
