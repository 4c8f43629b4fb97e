-- The condition on the paths: one subobject of a wanted type, and a public path to it (docs/rules/types-and-matching.md).
use Rattle.std.specs.Prelude.{ℕ, Bool, false, ◌==◌, ◌&&◌, List, [], ◌∷◌, Option, Some, None, filter, find, if◌then◌else◌}
use Rattle.std.specs.List.{list_all}
use Rattle.std.specs.Option.{is_none}
use Rattle.eh_types.specs.declared.kind.Base.{Base}
use Rattle.eh_types.specs.declared.graph.TheConstants.{MOST_PATHS}
use Rattle.eh_types.specs.Graph.{Row, same_type}
use Rattle.eh_match.specs.Paths.{paths, end_of, is_public, root_of, offset_of}

-- equal types are the same virtual base; None, the whole object, is only equal to itself
abbrev pub same_root : List Row → Option ℕ → Option ℕ → Bool
same_root g None other = is_none other
same_root g (Some ty) None = false
same_root g (Some ty) (Some other) = same_type g ty other

abbrev pub same_subobject : List Row → List Base → List Base → Bool
same_subobject g one other = offset_of one == offset_of other && same_root g (root_of one) (root_of other)

-- the first public one of paths that all name one subobject
abbrev pub sole : List Row → List (List Base) → Option (List Base)
sole g [] = None
sole g (first ∷ more) = if list_all (same_subobject g first) more then find is_public (first ∷ more) else None

-- the first public path from a type to a wanted one, where these name one subobject
unfoldable pub chosen : List Row → ℕ → ℕ → Option (List Base)
chosen g ty wanted = sole g (filter (λ steps. same_type g (end_of ty steps) wanted) (paths g MOST_PATHS ty))
