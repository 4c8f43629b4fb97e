use Rattle.std.proofs.Common.{◌≡◌, ℕ, List, drop}
use Rattle.std.specs.List.{list_any}
use Rattle.std.specs.Option.{option_map}
use Rattle.eh_word.specs.Names.{same_bytes}
use Rattle.eh_link.specs.Symbols.{has_global, duplicate_of}
use Rattle.eh_link.proofs.names.duplicate.Given as goal

abbrev pub invariant-loop-i : goal.invariant-loop-i
invariant-loop-i l =
    (option_map (λ name. name.now) l.found ≡ duplicate_of (drop l.i l.objects))
    × ((q : List ℕ) → list_any (same_bytes q) l.names ≡ list_any (has_global q) (drop l.i l.objects))
