use Rattle.std.proofs.Common.{◌≡◌, drop, map, filter}
use Rattle.std.specs.List.{find, list_any}
use Rattle.eh_word.specs.Names.{same_bytes}
use Rattle.eh_link.specs.Symbols.{global_names}
use Rattle.eh_link.proofs.names.shared_name.Given as goal

abbrev pub invariant-loop-symbol : goal.invariant-loop-symbol
invariant-loop-symbol l =
    find (λ name. list_any (same_bytes name) l.later) (map (λ symbol. symbol.name) (filter (λ symbol. symbol.global) (drop l.symbol-index l.symbol-items)))
    ≡ find (λ name. list_any (same_bytes name) l.later) (global_names l.object)
