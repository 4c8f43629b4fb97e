use Rattle.std.proofs.Common.{◌≡◌, ℕ, List, drop}
use Rattle.std.specs.Map.{lookup}
use Rattle.std.specs.Option.{option_or}
use Rattle.eh_word.specs.Names.{same_bytes}
use Rattle.eh_link.specs.Symbols.{is_global, first_in}
use Rattle.eh_link.proofs.names.global_meanings.Given as goal

abbrev pub invariant-loop-placed : goal.invariant-loop-placed
invariant-loop-placed l = (q : List ℕ) →
    option_or (lookup (same_bytes q) l.global) (first_in (is_global q) (drop l.placed-index l.all)) ≡ first_in (is_global q) l.all
