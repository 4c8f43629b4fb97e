-- Names of an object's symbols (docs/rules/sources.md).
use Rattle.std.specs.Prelude.{ℕ, nat_eq, Bool, List, codes}
use Rattle.std.specs.List.{starts_with}

-- a name that begins with `.L`
abbrev pub is_local : List ℕ → Bool
is_local name = starts_with nat_eq name (codes ".L")
