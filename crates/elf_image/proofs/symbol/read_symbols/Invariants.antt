use Rattle.std.proofs.Common.{◌≡◌, ◌*◌, map}
use Rattle.std.specs.List.{range_with_len}
use Rattle.elf_image.specs.Symbols.{symbol_at}
use Rattle.elf_image.proofs.symbol.read_symbols.Given as goal

abbrev pub invariant-loop-i : goal.invariant-loop-i
invariant-loop-i l = l.symbols.items ≡ map (λ i. symbol_at l.table l.strings (16 * i)) (range_with_len 0 l.i)
