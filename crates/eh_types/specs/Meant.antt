-- The graph of types that an image's roots have (docs/rules/types-and-matching.md).
use Rattle.std.specs.Prelude.{ℕ, ◌≡◌, ◌<◌, ◌⊎◌, List, [], ◌∷◌, ◌++◌, map, Some, Result, Ok, Err, IsSome}
use Rattle.elf_image.specs.Image.{Image}
use Rattle.eh_types.specs.declared.kind.Base.{Base}
use Rattle.eh_types.specs.declared.kind.TypeKind.{TypeKind}
use Rattle.eh_types.specs.declared.kind.TypeKind.TheVariants.{Other, Fundamental, Class, Si, Vmi, Pointer}
use Rattle.eh_types.specs.declared.fault.TypeFault.{TypeFault}
use Rattle.eh_types.specs.declared.fault.TypeFault.TheVariants.{Unreadable, Writable, NameTooLong, Cyclic, TooManyPaths, OutOfMemory}
use Rattle.eh_types.specs.declared.graph.TheConstants.{MOST_PATHS}
use Rattle.eh_types.specs.Graph.{Row, row_of, paths_within, IsSound}
use Rattle.eh_types.specs.Types.{type_at}

-- the number is in the list
abbrev pub Among : List ℕ → ℕ → Type 0
Among [] a = ⊥
Among (x ∷ xs) a = (x ≡ a) ⊎ Among xs a

-- ---- where a type leads

abbrev pub types_of : List Base → List ℕ
types_of bases = map (λ b. b.ty) bases

abbrev pub pointees : TypeKind → List ℕ
pointees Other = []
pointees Fundamental = []
pointees Class = []
pointees (Si base) = []
pointees Vmi = []
pointees (Pointer flags pointee) = pointee ∷ []

-- the types that a type leads to: its bases, and its pointee
abbrev pub leads_to : Row → List ℕ
leads_to r = types_of r.bases ++ pointees r.kind

-- the types that roots reach: the roots, and every type that a reached type leads to
pub data IsReachedType (image : Image) (roots : List ℕ) : ℕ → Type 0 where
  root : (a : ℕ) → Among roots a → IsReachedType image roots a
  step : (a b : ℕ) (r : Row) → IsReachedType image roots a → type_at image a ≡ Ok r → Among (leads_to r) b → IsReachedType image roots b

-- The graph of the roots: it has exactly the types that they reach, each as its words tell; and each type has a number of paths.
pub record IsGraph (image : Image) (roots : List ℕ) (g : List Row) : Type 0 where
  pub begins : (a : ℕ) → Among roots a → IsSome (row_of g a)
  pub steps : (a b : ℕ) (r : Row) → row_of g a ≡ Some r → Among (leads_to r) b → IsSome (row_of g b)
  pub rows : (a : ℕ) (r : Row) → row_of g a ≡ Some r → type_at image a ≡ Ok r
  pub reached : (a : ℕ) → IsSome (row_of g a) → IsReachedType image roots a
  pub sound : IsSound g

-- ---- why there is none

abbrev pub bases_of_result : Result Row TypeFault → List Base
bases_of_result (Ok r) = r.bases
bases_of_result (Err fault) = []

-- the bases of a type; none if it can't be read
abbrev pub bases_by : Image → ℕ → List Base
bases_by image a = bases_of_result (type_at image a)

-- b is a direct or indirect base of a
pub data IsBaseOf (image : Image) : ℕ → ℕ → Type 0 where
  one : (a b : ℕ) → Among (types_of (bases_by image a)) b → IsBaseOf image b a
  more : (a b c : ℕ) → Among (types_of (bases_by image a)) b → IsBaseOf image c b → IsBaseOf image c a

-- The type that a fault names is reached and has the fault: its words show it; or it is its own base; or it isn't, and has too many
-- paths.
abbrev pub Shows : Image → List ℕ → TypeFault → Type 0
Shows image roots (Unreadable a) = IsReachedType image roots a × (type_at image a ≡ Err (Unreadable a))
Shows image roots (Writable a) = IsReachedType image roots a × (type_at image a ≡ Err (Writable a))
Shows image roots (NameTooLong a) = IsReachedType image roots a × (type_at image a ≡ Err (NameTooLong a))
Shows image roots (Cyclic a) = IsReachedType image roots a × IsBaseOf image a a
Shows image roots (TooManyPaths a) = IsReachedType image roots a × ¬ (IsBaseOf image a a) × (MOST_PATHS < paths_within (bases_by image) MOST_PATHS a)
Shows image roots OutOfMemory = ⊥

-- the roots have no graph
abbrev pub NoGraph : Image → List ℕ → Type 0
NoGraph image roots = (g : List Row) → ¬ (IsGraph image roots g)
