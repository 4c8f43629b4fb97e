-- What was done on bytes that a source gave, whether or not it knows what it has left
-- (docs/rules/memory.md, "Sources that tell nothing").
use Rattle.std.specs.Prelude.{ℕ, List, [], ◌∷◌, Option, Some, None}
use Rattle.eh_bus.specs.Segment.{AreBytes}

-- some bytes were given, of which some are left, such that this holds
pub record OnGiven (Done : List ℕ → Option (List ℕ) → Type 0) : Type 0 where
  pub bytes : List ℕ
  pub left : List ℕ
  pub are : AreBytes bytes
  pub done : Done bytes (Some left)

-- one byte that was given, or none
abbrev pub given_bytes : Option ℕ → List ℕ
given_bytes None = []
given_bytes (Some byte) = byte ∷ []
