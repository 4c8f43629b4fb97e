use Rattle.std.proofs.Common.{◌≡◌, ◌++◌, drop}
use Rattle.elf_write.specs.Layout.{wanted_rows}
use Rattle.elf_write.proofs.rows.push_rows.Given as goal

abbrev pub invariant-loop-s : goal.invariant-loop-s
invariant-loop-s l =
    l.rows.items ++ wanted_rows l.mapping l.segments (drop l.s-index l.symbols) ≡ l.initial.rows.items ++ wanted_rows l.mapping l.segments l.symbols
