-- The state of the traversal while a graph is read (docs/rules/types-and-matching.md).
use Rattle.std.specs.Prelude.{ℕ, zero, suc, ◌≡◌, ◌+◌, ◌-◌, ◌*◌, ◌^◌, ◌<◌, ◌≤◌, ◌==◌, ◌&&◌, ◌⊎◌, not, Bool, false, if◌then◌else◌, List, [], ◌∷◌, length, take, reverse, Option, Some, None, IsSome, is_some, Ok}
use Rattle.std.specs.List.{sum_by, list_any}
use Rattle.std.specs.Map.{lookup}
use Rattle.std.specs.Ordering.{nat_cmp}
use Rattle.std.specs.BTreeMap.{is_at}
use Rattle.std.specs.BTreeSet.{contains}
use Rattle.elf_image.specs.Image.{Image}
use Rattle.eh_types.specs.declared.graph.TheConstants.{MOST_PATHS}
use Rattle.eh_types.specs.declared.state.CountedType.{CountedType}
use Rattle.eh_types.specs.declared.state.Frame.{Frame}
use Rattle.eh_types.specs.declared.state.GraphWalk.{GraphWalk}
use Rattle.eh_types.specs.Graph.{Row, paths_within}
use Rattle.eh_types.specs.Types.{kind_at, bases_at, row_in, type_at}
use Rattle.eh_types.specs.Meant.{Among, types_of, pointees, bases_by, IsReachedType}

-- the type at an address, if its bases have all been read
abbrev pub counted_type_at : GraphWalk → ℕ → Option CountedType
counted_type_at s a = lookup (is_at (nat_cmp a)) s.done.entries

-- the bases of the type at the address are being read
abbrev pub open_at : GraphWalk → ℕ → Bool
open_at s a = contains nat_cmp s.open a

-- the types whose bases are being read, the last one first: each is a base of the next
abbrev pub open_types : GraphWalk → List Frame
open_types s = reverse s.stack.items

-- the number of paths of a type, from the words of all types
abbrev pub paths_of : Image → ℕ → ℕ
paths_of image a = paths_within (bases_by image) MOST_PATHS a

-- a type that is done: its bases are done, and its pointee is done or queued
pub record IsDone (image : Image) (roots : List ℕ) (done : ℕ → Option CountedType) (pending : List ℕ) (a : ℕ) (d : CountedType) : Type 0 where
  pub row : type_at image a ≡ Ok (row_in image.segments d.info)
  pub reached : IsReachedType image roots a
  pub paths : d.paths ≡ paths_of image a
  pub few : d.paths ≤ MOST_PATHS
  pub bases : (b : ℕ) → Among (types_of (row_in image.segments d.info).bases) b → IsSome (done b)
  pub points : (b : ℕ) → Among (pointees d.info.kind) b → IsSome (done b) ⊎ Among pending b

-- a type whose first f.next bases are done, with their paths counted
pub record IsFrame (image : Image) (roots : List ℕ) (done : ℕ → Option CountedType) (f : Frame) : Type 0 where
  pub row : Row
  pub read : type_at image f.at ≡ Ok row
  pub kind : f.kind ≡ kind_at image f.at
  pub bases : row.bases ≡ bases_at image.segments f.at f.kind
  pub count : f.count ≡ length row.bases
  pub low : f.at < 2 ^ 32
  pub fits : f.count < 2 ^ 32
  pub reached : IsReachedType image roots f.at
  pub free : done f.at ≡ None
  pub next : f.next ≤ f.count
  pub passed : (b : ℕ) → Among (take f.next (types_of row.bases)) b → IsSome (done b)
  pub paths : f.paths ≡ 1 + sum_by (paths_of image) (take f.next (types_of row.bases))
  pub bound : f.paths ≤ 1 + MOST_PATHS * f.next

-- the type is a base of the top one of the stack
abbrev pub Leads : Image → ℕ → List Frame → Type 0
Leads image a [] = Unit {0}
Leads image a (f ∷ more) = Among (types_of (bases_by image f.at)) a

-- whether the type's bases are being read
abbrev pub is_on : List Frame → ℕ → Bool
is_on frames a = list_any (λ f. f.at == a) frames

abbrev pub AreStacked : Image → List ℕ → (ℕ → Option CountedType) → List Frame → Type 0
AreStacked image roots done [] = Unit {0}
AreStacked image roots done (f ∷ more) = IsFrame image roots done f × (is_on more f.at ≡ false) × Leads image f.at more × AreStacked image roots done more

-- the invariant between two steps
pub record Reading (image : Image) (roots : List ℕ) (done : ℕ → Option CountedType) (open_now : ℕ → Bool) (frames : List Frame) (pending : List ℕ) : Type 0 where
  pub each : (a : ℕ) (d : CountedType) → done a ≡ Some d → IsDone image roots done pending a d
  pub opened : (a : ℕ) → open_now a ≡ is_on frames a
  pub stacked : AreStacked image roots done frames
  pub begins : (a : ℕ) → Among roots a → IsSome (done a) ⊎ Among pending a
  pub waiting : (a : ℕ) → Among pending a → IsReachedType image roots a

-- the invariant, with these types open
abbrev pub IsReadingWith : Image → List ℕ → GraphWalk → List Frame → Type 0
IsReadingWith image roots s frames = Reading image roots (counted_type_at s) (open_at s) frames s.pending.items

abbrev pub IsReading : Image → List ℕ → GraphWalk → Type 0
IsReading image roots s = IsReadingWith image roots s (open_types s)

-- ---- what is left to do, in steps

-- how many of the first numbers pass a test
unfoldable pub count_free : (ℕ → Bool) → ℕ → ℕ
count_free free zero = 0
count_free free (suc n) = (if free n then 1 else 0) + count_free free n

-- the type is neither done nor open
abbrev pub is_free : (ℕ → Option CountedType) → List Frame → ℕ → Bool
is_free done frames a = not (is_some (done a)) && not (is_on frames a)

abbrev pub bases_left : List Frame → ℕ
bases_left frames = sum_by (λ f. f.count - f.next + 2) frames

-- A bound of the steps left: each new type has at most 2 ^ 32 bases, is finished once, and queues at most one pointee.
unfoldable pub work_left : (ℕ → Option CountedType) → List Frame → List ℕ → ℕ
work_left done frames pending = count_free (is_free done frames) (2 ^ 32) * 2 ^ 33 + bases_left frames + length pending

abbrev pub work_with : GraphWalk → List Frame → ℕ
work_with s frames = work_left (counted_type_at s) frames s.pending.items
