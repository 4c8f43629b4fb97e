use Rattle.std.proofs.Common.{◌≡◌, ◌++◌, map, drop}
use Rattle.gnu_rewrite.specs.Symbols.{type_symbol}
use Rattle.gnu_rewrite.proofs.symbols.push_types.Given as goal

abbrev pub invariant-loop-address : goal.invariant-loop-address
invariant-loop-address l = l.out.items ++ map type_symbol (drop l.address-index l.types) ≡ l.initial.out.items ++ map type_symbol l.types
