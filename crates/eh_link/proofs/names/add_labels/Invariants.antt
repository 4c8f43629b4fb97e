use Rattle.std.proofs.Common.{◌≡◌, ℕ, List, drop, ◌||◌}
use Rattle.std.specs.List.{list_any}
use Rattle.eh_word.specs.Names.{same_bytes}
use Rattle.eh_link.specs.Symbols.{is_label}
use Rattle.eh_link.proofs.names.add_labels.Given as goal

abbrev pub invariant-loop-symbol : goal.invariant-loop-symbol
invariant-loop-symbol l = (q : List ℕ) →
    (list_any (same_bytes q) l.names || list_any (is_label q) (drop l.symbol-index l.symbol-items))
    ≡ (list_any (same_bytes q) l.initial.names || list_any (is_label q) l.object.symbols)
