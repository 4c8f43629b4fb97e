use Rattle.std.proofs.Common.{◌≡◌, ◌++◌, drop}
use Rattle.std.specs.List.{flat_map}
use Rattle.eh_link.specs.Symbols.{exported_symbols}
use Rattle.eh_link.proofs.symbols.push_all_labels.Given as goal

abbrev pub invariant-loop-placed : goal.invariant-loop-placed
invariant-loop-placed l = l.out.items ++ flat_map exported_symbols (drop l.placed-index l.all) ≡ l.initial.out.items ++ flat_map exported_symbols l.all
