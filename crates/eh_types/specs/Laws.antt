-- Laws of every graph that is read (docs/rules/types-and-matching.md).
use Rattle.std.specs.Prelude.{ℕ, ◌+◌, ◌-◌, ◌*◌, ◌^◌, ◌<◌, ◌≤◌, ◌≡◌, ◌≢◌, ◌↔◌, Bool, true, false, ℤ, pos, negsuc, List, ◌∷◌, ◌++◌, length, drop, find, All, IsSome, Some, Ok}
use Rattle.elf_image.specs.Segments.{Segment}
use Rattle.elf_image.specs.Image.{Image}
use Rattle.eh_types.specs.declared.fault.TypeFault.{TypeFault}
use Rattle.eh_types.specs.declared.kind.Base.{Base}
use Rattle.eh_types.specs.declared.kind.TypeKind.TheVariants.{Pointer}
use Rattle.eh_types.specs.declared.types.TheConstants.{NAME_LIMIT, NAME}
use Rattle.eh_types.specs.declared.words.TheConstants.{WORD_SIZE}
use Rattle.eh_types.specs.Graph.{Row, row_of}
use Rattle.eh_types.specs.Words.{has_bytes_at, word, is_word, is_written}
use Rattle.eh_types.specs.Types.{base_by, word_count, type_at}
use Rattle.eh_types.specs.Meant.{IsReachedType, IsGraph, IsBaseOf, Shows}

-- the same roots have at most one graph
abbrev pub GraphsAreOne : Type 0
GraphsAreOne = (image : Image) (roots : List ℕ) (g h : List Row) → IsGraph image roots g → IsGraph image roots h → g ≡ h

-- a graph has exactly the types that its roots reach
abbrev pub GraphsHoldWhatIsReached : Type 0
GraphsHoldWhatIsReached = (image : Image) (roots : List ℕ) (g : List Row) → IsGraph image roots g → (a : ℕ) → IsSome (row_of g a) ↔ IsReachedType image roots a

-- a graph that has a class has its bases, and one that has a pointer has its pointee
abbrev pub BasesAndPointeesAreHeld : Type 0
BasesAndPointeesAreHeld =
    (image : Image) (roots : List ℕ) (g : List Row) → IsGraph image roots g → (a : ℕ) (r : Row) → row_of g a ≡ Some r
    → All (λ b. IsSome (row_of g b.ty)) r.bases × ((flags pointee : ℕ) → r.kind ≡ Pointer flags pointee → IsSome (row_of g pointee))

-- no type of a graph is its own direct or indirect base
abbrev pub NoneIsItsOwnBase : Type 0
NoneIsItsOwnBase = (image : Image) (roots : List ℕ) (g : List Row) → IsGraph image roots g → (a : ℕ) → IsSome (row_of g a) → ¬ (IsBaseOf image a a)

-- if a type that the roots reach has a fault, there is no graph
abbrev pub FaultsHaveNoGraph : Type 0
FaultsHaveNoGraph = (image : Image) (roots : List ℕ) (fault : TypeFault) → Shows image roots fault → (g : List Row) → ¬ (IsGraph image roots g)

-- ---- what the words say

-- a signed number of 24 bits, and how it is written
abbrev pub IsOffset : ℤ → Type 0
IsOffset (pos n) = n < 2 ^ 23
IsOffset (negsuc n) = n < 2 ^ 23

abbrev pub high_bits : ℤ → ℕ
high_bits (pos n) = n
high_bits (negsuc n) = 2 ^ 24 - (n + 1)

abbrev pub bit : Bool → ℕ
bit true = 1
bit false = 0

-- the second word of a base: its offset from bit 8 on, bit 1 for a public one, bit 0 for a virtual one
abbrev pub base_flags : Base → ℕ
base_flags b = high_bits b.offset * 256 + (2 * bit b.is_public + bit b.is_virtual)

-- a base that is written as two words is read back as that base
abbrev pub BasesAreRead : Type 0
BasesAreRead = (b : Base) → IsOffset b.offset → base_by b.ty (base_flags b) ≡ b

-- the words of a type that is read lie in the image, and none is writable
abbrev pub WordsAreFixed : Type 0
WordsAreFixed =
    (image : Image) (a k : ℕ) (r : Row) → type_at image a ≡ Ok r → k < word_count image.segments a r.kind
    → (is_word image.segments (a + WORD_SIZE * k) ≡ true) × (is_written image.segments (a + WORD_SIZE * k) ≡ false)

-- the name lies in a read-only segment's bytes, with a zero byte after it and none in it, and is not too long
pub record IsNamed (segments : List Segment) (a : ℕ) (name : List ℕ) : Type 0 where
  pub segment : Segment
  pub found : find (has_bytes_at 1 a) segments ≡ Some segment
  pub read_only : segment.write ≡ false
  pub rest : List ℕ
  pub place : drop (a - segment.start) segment.bytes ≡ name ++ 0 ∷ rest
  pub plain : All (λ b. b ≢ 0) name
  pub short : length name ≤ NAME_LIMIT

abbrev pub NamesAreEnded : Type 0
NamesAreEnded = (image : Image) (a : ℕ) (r : Row) → type_at image a ≡ Ok r → IsNamed image.segments (word image.segments (a + NAME)) r.name
