use Rattle.std.proofs.Common.{◌≡◌, ◌++◌, map, drop}
use Rattle.gnu_rewrite.specs.Symbols.{function_symbol}
use Rattle.gnu_rewrite.proofs.symbols.push_functions.Given as goal

abbrev pub invariant-loop-f : goal.invariant-loop-f
invariant-loop-f l = l.out.items ++ map function_symbol (drop l.f-index l.functions) ≡ l.initial.out.items ++ map function_symbol l.functions
