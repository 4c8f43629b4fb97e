-- What the words of a type tell, and which types are equal (Itanium C++ ABI, "Run-Time Type Information (RTTI)"; docs/rules/types-and-matching.md): laws
-- in numbers above the graph of types.
use Rattle.std.specs.Prelude.{◌≡◌, ◌≢◌, ◌↔◌, ◌⊎◌, ℕ, ◌+◌, ◌*◌, ◌/◌, ◌%◌, ◌<◌, ◌≤◌, ◌==◌, true, false, pos, List, [], ◌∷◌, ◌++◌, length, All, Any, slice_index_or, Some, Ok, codes}
use Rattle.elf_image.specs.Segments.{Segment}
use Rattle.elf_image.specs.Image.{Image, symbol_in}
use Rattle.eh_types.specs.declared.kind.Base.{Base}
use Rattle.eh_types.specs.declared.kind.TypeKind.{TypeKind}
use Rattle.eh_types.specs.declared.kind.TypeKind.TheVariants.{Other, Fundamental, Class, Si, Vmi, Pointer}
use Rattle.eh_types.specs.Graph.{Row, name_of, same_type}
use Rattle.eh_types.specs.Words.{word}
use Rattle.eh_types.specs.Types.{type_at, kind_at}
use Rattle.eh_types.specs.Laws.{IsNamed}

-- ---- equal types

-- both types have the same name, which isn't empty and doesn't begin with `*`
pub record ShareName (g : List Row) (a b : ℕ) : Type 0 where
  pub first : ℕ
  pub rest : List ℕ
  pub own : name_of g a ≡ first ∷ rest
  pub other : name_of g b ≡ first ∷ rest
  pub global : first ≢ 42

-- types are equal if and only if they have the same address or share such a name
abbrev pub TypesAreEqual : Type 0
TypesAreEqual = (g : List Row) (a b : ℕ) → (same_type g a b ≡ true) ↔ ((a ≡ b) ⊎ ShareName g a b)

-- ---- kinds

-- a word is the address of a symbol and 8
pub record PointsInto (image : Image) (name : List ℕ) (w : ℕ) : Type 0 where
  pub at : ℕ
  pub symbol : symbol_in image name ≡ Some at
  pub is : w ≡ (at + 8) % 4294967296

abbrev pub fundamental : List ℕ
fundamental = codes "_ZTVN10__cxxabiv123__fundamental_type_infoE"

abbrev pub class : List ℕ
class = codes "_ZTVN10__cxxabiv117__class_type_infoE"

abbrev pub single : List ℕ
single = codes "_ZTVN10__cxxabiv120__si_class_type_infoE"

abbrev pub vmi_vtable_name : List ℕ
vmi_vtable_name = codes "_ZTVN10__cxxabiv121__vmi_class_type_infoE"

abbrev pub pointer : List ℕ
pointer = codes "_ZTVN10__cxxabiv119__pointer_type_infoE"

-- the first word of a type tells its kind, and the words from byte 8 on what belongs to it: the base of a class with a single one; the
-- flags of a pointer and, from byte 12 on, its pointee. Of two vtables at one place the first in this order counts
pub record KindsAreTold (image : Image) (a w : ℕ) : Type 0 where
  pub fundamentals : PointsInto image fundamental w → kind_at image a ≡ Fundamental
  pub classes : ¬ (PointsInto image fundamental w) → PointsInto image class w → kind_at image a ≡ Class
  pub singles : ¬ (PointsInto image fundamental w) → ¬ (PointsInto image class w) → PointsInto image single w → kind_at image a ≡ Si (word image.segments (a + 8))
  pub manies : ¬ (PointsInto image fundamental w) → ¬ (PointsInto image class w) → ¬ (PointsInto image single w) → PointsInto image vmi_vtable_name w → kind_at image a ≡ Vmi
  pub pointers : ¬ (PointsInto image fundamental w) → ¬ (PointsInto image class w) → ¬ (PointsInto image single w) → ¬ (PointsInto image vmi_vtable_name w) → PointsInto image pointer w
      → kind_at image a ≡ Pointer (word image.segments (a + 8)) (word image.segments (a + 12))
  pub others : ¬ (PointsInto image fundamental w) → ¬ (PointsInto image class w) → ¬ (PointsInto image single w) → ¬ (PointsInto image vmi_vtable_name w) → ¬ (PointsInto image pointer w)
      → kind_at image a ≡ Other

abbrev pub VtablesTellKinds : Type 0
VtablesTellKinds = (image : Image) (a w : ℕ) → word image.segments a ≡ w → KindsAreTold image a w

-- a type that is read is of the kind that its first word tells
abbrev pub KindsAreRead : Type 0
KindsAreRead = (image : Image) (a : ℕ) (r : Row) → type_at image a ≡ Ok r → (r.at ≡ a) × (r.kind ≡ kind_at image a)

-- ---- words

-- how many words a type of each kind has
abbrev pub words_of : Image → ℕ → TypeKind → ℕ
words_of image a Other = 2
words_of image a Fundamental = 2
words_of image a Class = 2
words_of image a (Si base) = 3
words_of image a Vmi = 4 + 2 * word image.segments (a + 12)
words_of image a (Pointer flags pointee) = 4

-- the four bytes of a word, from its address on, are file bytes of a segment
pub record HasWord (a : ℕ) (s : Segment) : Type 0 where
  pub from : s.start ≤ a
  pub to : a + 4 ≤ s.start + length s.bytes

-- some segment has the word, and none that may be written has it
pub record IsFixed (segments : List Segment) (a : ℕ) : Type 0 where
  pub there : Any (HasWord a) segments
  pub fixed : All (λ s. HasWord a s → s.write ≡ false) segments

-- the words of a type that is read, from its own address on, are there, and none of them is writable
abbrev pub WordsAreThere : Type 0
WordsAreThere = (image : Image) (a k : ℕ) (r : Row) → type_at image a ≡ Ok r → k < words_of image a r.kind → IsFixed image.segments (a + 4 * k)

-- No other word is read: if these are there and none is writable, and the word at byte 4 refers to a name, the type is read, with that
-- name.
pub record IsReadAs (image : Image) (a : ℕ) (name : List ℕ) : Type 0 where
  pub row : Row
  pub read : type_at image a ≡ Ok row
  pub named : row.name ≡ name

abbrev pub NoOthersAreAsked : Type 0
NoOthersAreAsked =
    (image : Image) (a : ℕ) (name : List ℕ) → ((k : ℕ) → k < words_of image a (kind_at image a) → IsFixed image.segments (a + 4 * k))
    → IsNamed image.segments (word image.segments (a + 4)) name → IsReadAs image a name

-- a word is the number of its four bytes in the first segment that has them, the lowest byte first
pub record StandsIn (segments : List Segment) (a : ℕ) (b0 b1 b2 b3 : ℕ) : Type 0 where
  pub before : List Segment
  pub segment : Segment
  pub after : List Segment
  pub is : segments ≡ before ++ segment ∷ after
  pub first : All (λ s. ¬ (HasWord a s)) before
  pub low : List ℕ
  pub rest : List ℕ
  pub bytes : segment.bytes ≡ low ++ (b0 ∷ b1 ∷ b2 ∷ b3 ∷ rest)
  pub at : a ≡ segment.start + length low

abbrev pub WordsAreFourBytes : Type 0
WordsAreFourBytes =
    (segments : List Segment) (a b0 b1 b2 b3 : ℕ) → StandsIn segments a b0 b1 b2 b3 → word segments a ≡ b0 + 256 * b1 + 65536 * b2 + 16777216 * b3

-- where no segment has it, it counts as 0
abbrev pub OtherWordsAreZero : Type 0
OtherWordsAreZero = (segments : List Segment) (a : ℕ) → All (λ s. ¬ (HasWord a s)) segments → word segments a ≡ 0

-- ---- bases

-- the base of a class with a single one is public, not virtual, and at offset 0
abbrev pub SingleBases : Type 0
SingleBases =
    (image : Image) (a base : ℕ) (r : Row) → type_at image a ≡ Ok r → r.kind ≡ Si base
    → r.bases ≡ record { ty = base; offset = pos 0; is_virtual = false; is_public = true } ∷ []

-- A class with a list of bases has their number in the word at byte 12. They begin at byte 16, eight bytes each: a type, and a word
-- whose bit 0 is set for a virtual and bit 1 for a public base.
pub record IsBase (image : Image) (a k : ℕ) (b : Base) : Type 0 where
  pub ty : b.ty ≡ word image.segments (a + 16 + 8 * k)
  pub is_virtual : b.is_virtual ≡ (word image.segments (a + 16 + 8 * k + 4) % 2 == 1)
  pub is_public : b.is_public ≡ (word image.segments (a + 16 + 8 * k + 4) / 2 % 2 == 1)

pub record HasBases (image : Image) (a : ℕ) (bases : List Base) : Type 0 where
  pub counted : length bases ≡ word image.segments (a + 12)
  pub each : (k : ℕ) (other : Base) → k < word image.segments (a + 12) → IsBase image a k (slice_index_or bases k other)

abbrev pub ManyBases : Type 0
ManyBases = (image : Image) (a : ℕ) (r : Row) → type_at image a ≡ Ok r → r.kind ≡ Vmi → HasBases image a r.bases

-- every other type has none
pub record NoBases (image : Image) (a : ℕ) (r : Row) : Type 0 where
  pub others : r.kind ≡ Other → r.bases ≡ []
  pub fundamentals : r.kind ≡ Fundamental → r.bases ≡ []
  pub classes : r.kind ≡ Class → r.bases ≡ []
  pub pointers : (flags pointee : ℕ) → r.kind ≡ Pointer flags pointee → r.bases ≡ []

abbrev pub OthersHaveNoBases : Type 0
OthersHaveNoBases = (image : Image) (a : ℕ) (r : Row) → type_at image a ≡ Ok r → NoBases image a r
