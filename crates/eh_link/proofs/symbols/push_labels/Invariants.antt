use Rattle.std.proofs.Common.{◌≡◌, ◌++◌, drop}
use Rattle.std.specs.List.{flat_map}
use Rattle.eh_link.specs.Symbols.{label_symbols, exported_symbols}
use Rattle.eh_link.proofs.symbols.push_labels.Given as goal

abbrev pub invariant-loop-symbol : goal.invariant-loop-symbol
invariant-loop-symbol l = l.out.items ++ flat_map (label_symbols l.placed.at) (drop l.symbol-index l.symbol-items) ≡ l.initial.out.items ++ exported_symbols l.placed
