-- A graph of types: a list of rows in ascending order of their addresses (docs/rules/types-and-matching.md).
use Rattle.std.specs.Prelude.{ℕ, zero, suc, Bool, not, ◌≡◌, ◌+◌, ◌≤◌, ◌==◌, ◌&&◌, ◌||◌, List, [], ◌∷◌, length, slice_index, find, Option, Some, None, option_map}
use Rattle.std.specs.List.{sum_by}
use Rattle.std.specs.Str.{bytes_eq}
use Rattle.eh_types.specs.declared.kind.Base.{Base}
use Rattle.eh_types.specs.declared.kind.TypeKind.{TypeKind}
use Rattle.eh_types.specs.declared.graph.TheConstants.{MOST_PATHS, LOCAL_MARK}

pub record Row : Type 0 where
  pub at : ℕ
  pub kind : TypeKind
  pub name : List ℕ
  pub bases : List Base

-- ---- look-ups

-- the first row with this address
unfoldable pub row_of : List Row → ℕ → Option Row
row_of g ty = find (λ r. r.at == ty) g

abbrev pub kind_of : List Row → ℕ → Option TypeKind
kind_of g ty = option_map (λ r. r.kind) (row_of g ty)

abbrev pub bases_in : Option Row → List Base
bases_in None = []
bases_in (Some r) = r.bases

-- the bases of a type; none if the graph doesn't have it
abbrev pub bases_of : List Row → ℕ → List Base
bases_of g ty = bases_in (row_of g ty)

abbrev pub name_in : Option Row → List ℕ
name_in None = []
name_in (Some r) = r.name

-- the name of a type; empty if the graph doesn't have it
abbrev pub name_of : List Row → ℕ → List ℕ
name_of g ty = name_in (row_of g ty)

-- ---- types that are equal

-- the names are equal, not empty, and not compared by address
abbrev pub same_name : List ℕ → List ℕ → Bool
same_name a b = not (length a == 0) && (not (slice_index a 0 == LOCAL_MARK) && bytes_eq a b)

-- the same address, or the same name
unfoldable pub same_type : List Row → ℕ → ℕ → Bool
same_type g a b = a == b || same_name (name_of g a) (name_of g b)

-- ---- paths of bases

-- the number of paths that have at most so many steps, each from a type to one of its bases; the empty path counts
unfoldable pub paths_within : (ℕ → List Base) → ℕ → ℕ → ℕ
paths_within bases zero ty = 1
paths_within bases (suc steps) ty = 1 + sum_by (λ b. paths_within bases steps b.ty) (bases ty)

-- count is the number of paths of each type. It is smaller for each base of a type, so no type is its own direct or indirect base.
pub record IsCounted (g : List Row) (count : ℕ → ℕ) : Type 0 where
  pub counts : (ty : ℕ) → count ty ≡ 1 + sum_by (λ b. count b.ty) (bases_of g ty)
  pub few : (ty : ℕ) → count ty ≤ MOST_PATHS

-- the number of paths of a type, if none is longer than MOST_PATHS steps
unfoldable pub path_count : List Row → ℕ → ℕ
path_count g ty = paths_within (bases_of g) MOST_PATHS ty

-- ---- what holds of every graph

-- the rows are in ascending order of their addresses, which start at the number or above it
abbrev pub Rise : ℕ → List Row → Type 0
Rise low [] = Unit {0}
Rise low (r ∷ more) = (low ≤ r.at) × Rise (r.at + 1) more

-- The rows are ordered, so equal graphs are equal lists; and each type has a number of paths.
pub record IsSound (g : List Row) : Type 0 where
  pub rise : Rise 0 g
  pub counted : IsCounted g (path_count g)
