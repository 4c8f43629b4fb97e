use Rattle.std.proofs.Common.{◌≡◌, ◌+◌, ◌++◌, drop, length}
use Rattle.std.specs.List.{flat_map}
use Rattle.elf_image.specs.Symbols.{Symbol}
use Rattle.eh_word.specs.Bytes.{zeros}
use Rattle.elf_write.specs.Layout.{zero_terminated, strings_of, symbol_rows}
use Rattle.elf_write.proofs.rows.table_of.Given as goal

abbrev pub invariant-loop-s : goal.invariant-loop-s
invariant-loop-s l =
    (l.at + length (flat_map (λ (s : Symbol). zero_terminated s.name) (drop l.s-index l.rows)) ≡ length (strings_of l.rows))
    × (l.out.items ++ symbol_rows l.at (drop l.s-index l.rows) ≡ zeros 16 ++ symbol_rows 1 l.rows)
