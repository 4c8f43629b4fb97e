use Rattle.std.proofs.Common.{◌≡◌, ◌++◌, map, drop}
use Rattle.gnu_rewrite.specs.Symbols.{mark_symbol}
use Rattle.gnu_rewrite.proofs.symbols.push_marks.Given as goal

abbrev pub invariant-loop-mark : goal.invariant-loop-mark
invariant-loop-mark l = l.out.items ++ map mark_symbol (drop l.mark-index l.marks) ≡ l.initial.out.items ++ map mark_symbol l.marks
