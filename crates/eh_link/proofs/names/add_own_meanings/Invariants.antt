use Rattle.std.proofs.Common.{◌≡◌, ℕ, List, drop}
use Rattle.std.specs.List.{find}
use Rattle.std.specs.Map.{lookup}
use Rattle.std.specs.Option.{option_or, option_map}
use Rattle.eh_word.specs.Names.{same_bytes}
use Rattle.eh_link.specs.Symbols.{is_label, meaning, first_label}
use Rattle.eh_link.proofs.names.add_own_meanings.Given as goal

abbrev pub invariant-loop-symbol : goal.invariant-loop-symbol
invariant-loop-symbol l = (q : List ℕ) →
    option_or (lookup (same_bytes q) l.own) (option_map (meaning l.placed.at) (find (is_label q) (drop l.symbol-index l.symbol-items)))
    ≡ option_or (lookup (same_bytes q) l.initial.own) (first_label (is_label q) l.placed)
