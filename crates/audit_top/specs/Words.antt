-- The words of an audit (docs/guide/audit.md, "The program").
use Rattle.std.specs.Prelude.{ℕ, ◌==◌, not, Bool, false, List, [], ◌∷◌, Option, Some, None, if◌then◌else◌}
use Rattle.audit_top.specs.declared.words.TheConstants.{HYPHEN}

-- not empty, and not beginning with `-`
abbrev pub is_name : List ℕ → Bool
is_name [] = false
is_name (first ∷ more) = not (first == HYPHEN)

-- one word that is a name; all other words name no file
unfoldable pub name_of : List (List ℕ) → Option (List ℕ)
name_of [] = None
name_of (word ∷ []) = if is_name word then Some word else None
name_of (word ∷ more ∷ rest) = None
