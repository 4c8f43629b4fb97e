use Rattle.std.proofs.Common.{◌≡◌, ◌++◌, drop, map}
use Rattle.eh_link.specs.Symbols.{mark_symbol, mark_symbols}
use Rattle.eh_link.proofs.symbols.push_marks.Given as goal

abbrev pub invariant-loop-mark : goal.invariant-loop-mark
invariant-loop-mark l = l.out.items ++ map (mark_symbol l.placed.at) (drop l.mark-index l.mark-items) ≡ l.initial.out.items ++ mark_symbols l.placed
